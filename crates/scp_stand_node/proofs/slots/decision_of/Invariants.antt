use Rattle.std.proofs.Common.{◌≡◌, drop}
use Rattle.std.specs.Prelude.{find}
use Rattle.scp_turn.specs.scp_ledger.specs.Decisions.{is_at}
use Rattle.scp_stand_node.proofs.slots.decision_of.Given as goal

-- what is left tells it
abbrev pub invariant-loop-decision : goal.invariant-loop-decision
invariant-loop-decision l = find (is_at l.slot) (drop l.decision-index l.decisions) ≡ find (is_at l.slot) l.decisions
