use Rattle.std.proofs.Common.{◌≡◌, ◌<◌, ℕ, false, Some}
use Rattle.std.specs.Prelude.{slice_get}
use Rattle.scp_core.specs.Kv.{NodeView}
use Rattle.scp_turn.proofs.rounds.failed.Given as goal

-- none of those so far failed
abbrev pub invariant-loop-index : goal.invariant-loop-index
invariant-loop-index l = (i : ℕ) → (node : NodeView) → i < l.index → slice_get l.nodes i ≡ Some node → node.failed ≡ false
