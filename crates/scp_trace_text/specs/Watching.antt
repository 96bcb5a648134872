-- What a watch knows of a step before it is taken, and what it writes after it, which is what happened in the step (this project's
-- profile).
use Rattle.std.specs.Prelude.{ℕ, ◌≡◌, ◌⊎◌, Bool, true, false, List, [], Option, flat_map}
use Rattle.scp_facts.specs.scp_core.specs.declared.event.Event.{Event}
use Rattle.scp_facts.specs.scp_core.specs.declared.event.Reply.{Reply}
use Rattle.scp_facts.specs.scp_core.specs.History.{Exchange}
use Rattle.scp_facts.specs.scp_core.specs.Kv.{NodeView}
use Rattle.scp_stand_slot.specs.scp_device.specs.Device.{Gains}
use Rattle.scp_facts.specs.scp_turn.specs.Watch.{notes}
use Rattle.scp_facts.specs.scp_turn.specs.Kv.{Noting, Watched}
use Rattle.scp_stand_slot.specs.declared.names.Names.{Names}
use Rattle.scp_facts.specs.declared.fact.Telling.{Telling}
use Rattle.scp_facts.specs.declared.fact.Telling.TheVariants.{Line, Of}
use Rattle.scp_facts.specs.declared.watch.Awaited.TheVariants.{Nothing}
use Rattle.scp_facts.specs.Watching.{WatchView, Awaits, TellsStep}
use Rattle.scp_trace_text.specs.Tracing.{live_text, IsTraced}

-- What contracts see of a watch. It has the names of nodes and of quorum sets, which its lines use. It has the facts that it was given and
-- hasn't written yet, what is written so far, and how often its writer has failed. It knows whether it failed itself, and whether that was
-- because memory ran out.
pub record TraceView : Type 0 where
  pub names : Names
  pub facts : WatchView
  pub written : Option (List ℕ)
  pub failures : ℕ
  pub has_failed : Bool
  pub lacks_memory : Bool

-- No facts that aren't written.
abbrev pub nothing : WatchView
nothing = record { tellings = []; awaited = Nothing; lacks_memory = false }

-- A watch that was given no facts yet.
abbrev pub untold : Names → Option (List ℕ) → ℕ → TraceView
untold names written failures = record { names = names; facts = nothing; written = written; failures = failures; has_failed = false; lacks_memory = false }

-- The lines of a reported fact at a node.
abbrev pub telling_text : Names → NodeView → Telling → List ℕ
telling_text names v (Line line) = []
telling_text names v (Of told) = live_text names v told.fact

-- What the watch knows before a step, unless it failed.
abbrev pub AwaitsStep : TraceView → ℕ → Event → NodeView → TraceView → Type 0
AwaitsStep old number event v new = (new.has_failed ≡ true) ⊎ (Awaits old.facts number event v new.facts × (new ≡ record old { facts = new.facts }))

-- The lines of all facts that it was given are written, and none of the facts is kept. Memory was enough for all of them.
pub record WritesStep (old : TraceView) (told : WatchView) (v : NodeView) (new : TraceView) : Type 0 where
  pub calm : told.lacks_memory ≡ false
  pub wrote : Gains old.written (flat_map (telling_text old.names v) told.tellings) new.written
  pub same : new ≡ record old { facts = nothing; written = new.written }

-- What the watch writes after a step, unless it failed.
abbrev pub TracesStep : TraceView → ℕ → Reply → NodeView → TraceView → Type 0
TracesStep old number reply v new = (new.has_failed ≡ true) ⊎ ((told : WatchView) × TellsStep old.facts number reply v told × WritesStep old told v new)

-- What the watch notes of a step.
abbrev pub noting : Noting TraceView
noting = notes AwaitsStep TracesStep

-- If a watch hasn't failed, what it wrote about the steps of a node is exactly what happened in them. Before these steps it had no facts
-- that weren't written.
abbrev pub TracedIsWhatHappened : Type 0
TracedIsWhatHappened =
    (number : ℕ) (old new : NodeView) (heard : List Exchange) (first last : TraceView) → first.facts.tellings ≡ [] → last.has_failed ≡ false → Watched noting number first old heard new last → IsTraced first.names old heard new first.written last.written
