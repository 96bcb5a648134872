use Rattle.std.proofs.Common.{◌≡◌, ◌+◌, ◌<◌, ℕ, length, get_or}
use Rattle.scp_turn.specs.scp_core.specs.Kv.{NodeView}
use Rattle.scp_line.specs.Play.{IsNew}
use Rattle.scp_line.proofs.nodes.new_nodes.Given as goal

abbrev pub invariant-loop-index : goal.invariant-loop-index
invariant-loop-index l = record {
  count : length l.nodes.items ≡ l.index;
  each : (i : ℕ) → (d : NodeView) → i < length l.nodes.items → IsNew l.commands (i + 1) (get_or l.nodes.items i d);
}
