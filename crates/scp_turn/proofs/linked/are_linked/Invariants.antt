use Rattle.std.proofs.Common.{◌<◌, ℕ}
use Rattle.scp_turn.specs.Linked.{HasOthers}
use Rattle.scp_turn.proofs.linked.are_linked.Given as goal

-- those so far have the others as their peers
abbrev pub invariant-loop-place : goal.invariant-loop-place
invariant-loop-place l = (i : ℕ) → i < l.place → HasOthers l.nodes i
