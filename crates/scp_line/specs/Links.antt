-- The links of a script's nodes, and what its lines say of them.
use Rattle.std.specs.Prelude.{ℕ, ◌-◌, ◌≤◌, ◌≡◌, ◌≢◌, List, Some, length, map, slice_get}
use Rattle.scp_turn.specs.scp_wire.specs.Shape.{Tail}
use Rattle.scp_turn.specs.scp_core.specs.Node.{LinkView}
use Rattle.scp_turn.specs.scp_core.specs.Kv.{NodeView}
use Rattle.scp_turn.specs.Heard.{Nodes}
use Rattle.scp_turn.specs.Rounds.{link_of}
use Rattle.scp_report.specs.scp_script.specs.declared.command.Command.{Command}
use Rattle.scp_report.specs.scp_script.specs.Script.{is_open, lives}

-- how often a node's link was opened, and whether it is open
abbrev pub tail_at : LinkView → Tail
tail_at k = record { life = k.life; is_open = k.is_open }

-- how often each link of a node was opened, and whether it is open
abbrev pub tails : NodeView → List Tail
tails v = map tail_at v.links

-- how often the lines opened the link between these nodes, and whether they left it open
abbrev pub tail_said : ℕ → ℕ → List Command → Tail
tail_said from to done = record { life = lives from to done; is_open = is_open from to done }

-- Each link between two different nodes was opened as often as the lines say, and is open exactly if the lines left it open.
abbrev pub AreLinked : List Command → Nodes → Type 0
AreLinked done nodes = (from to : ℕ) → 1 ≤ from → from ≤ length nodes → 1 ≤ to → to ≤ length nodes → from ≢ to → (v : NodeView) → slice_get nodes (to - 1) ≡ Some v → slice_get (tails v) (link_of from to) ≡ Some (tail_said from to done)
