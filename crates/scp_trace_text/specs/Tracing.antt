-- What is written about the steps of a node (this project's profile).
use Rattle.std.specs.Prelude.{ℕ, ◌≡◌, Bool, true, false, List, [], ◌++◌, Option, flat_map, codes, if◌then◌else◌}
use Rattle.scp_words.specs.scp_types.specs.declared.names.NodeId.{NodeId}
use Rattle.scp_facts.specs.scp_core.specs.History.{Exchange}
use Rattle.scp_facts.specs.scp_core.specs.Kv.{NodeView}
use Rattle.scp_stand_slot.specs.scp_device.specs.Device.{Gains}
use Rattle.scp_facts.specs.scp_turn.specs.Kv.{Noting, Watched}
use Rattle.scp_stand_slot.specs.declared.names.Names.{Names}
use Rattle.scp_stand_slot.specs.Names.{node_name}
use Rattle.scp_facts.specs.declared.fact.Fact.{Fact}
use Rattle.scp_facts.specs.declared.fact.Fact.TheVariants.{Full}
use Rattle.scp_facts.specs.Facts.{facts_in}
use Rattle.scp_trace_text.specs.Facts.{fact_line}

-- The fact is that a queue was full.
abbrev pub tells_full : Fact → Bool
tells_full Full = true
tells_full fact = false

-- At the node with this id, the queue for the event was full.
abbrev pub full_text : Names → NodeId → List ℕ
full_text names me = node_name names me ++ codes " full\n"

-- The lines of a fact at a node, as it is now. There is no script, so a full queue is shown with the node's name and without a line's
-- number.
abbrev pub live_text : Names → NodeView → Fact → List ℕ
live_text names v fact = if tells_full fact then full_text names v.config.me else fact_line names 0 v [] fact

-- After a step, the text has grown by the lines of the step's facts, in order, with the node as it is after the step.
abbrev pub Traces : Names → Noting (List ℕ)
Traces names old at event reply before after' new = new ≡ old ++ flat_map (live_text names after') (facts_in event reply before after')

-- A node took these steps, and exactly what happened in them was written: the lines of each step's facts, in order.
pub record IsTraced (names : Names) (old : NodeView) (heard : List Exchange) (new : NodeView) (written longer : Option (List ℕ)) : Type 0 where
  pub text : List ℕ
  pub traced : Watched (Traces names) 1 [] old heard new text
  pub wrote : Gains written text longer
