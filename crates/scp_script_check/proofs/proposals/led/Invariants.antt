use Rattle.std.proofs.Common.{◌≡◌, ℕ}
use Rattle.std.specs.List.{list_any}
use Rattle.std.specs.Ordering.{nat_cmp}
use Rattle.std.specs.BTreeSet.{contains}
use Rattle.scp_script.specs.Nodes.{numbers}
use Rattle.scp_script_check.specs.Warnings.{leads_own, turn_of}
use Rattle.scp_script_check.proofs.proposals.led.Given as goal

-- those of the nodes so far
abbrev pub invariant-loop-index : goal.invariant-loop-index
invariant-loop-index l = (q : ℕ) → contains nat_cmp l.led q ≡ list_any (λ node. leads_own (turn_of l.turns node) l.commands q node) (numbers l.index)
