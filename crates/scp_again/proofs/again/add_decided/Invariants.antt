use Rattle.std.specs.Prelude.{◌≡◌, ◌++◌, flat_map, take}
use Rattle.scp_core.specs.scp_ledger.specs.declared.journal.Decision.{Decision}
use Rattle.scp_again.specs.Again.{own_of}
use Rattle.scp_again.proofs.again.add_decided.Given as goal

-- what is added of the decisions so far
abbrev pub invariant-loop-decision : goal.invariant-loop-decision
invariant-loop-decision l = l.out.items ≡ l.fn.out.items ++ flat_map (λ (d : Decision). own_of d.origin) (take l.decision-index l.decision-items)
