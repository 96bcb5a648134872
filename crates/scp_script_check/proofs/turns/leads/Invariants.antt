use Rattle.std.proofs.Common.{◌≡◌, false}
use Rattle.scp_script_check.specs.Warnings.{leads_in}
use Rattle.scp_script_check.proofs.turns.leads.Given as goal

-- it leads none of the rounds so far
abbrev pub invariant-loop-index : goal.invariant-loop-index
invariant-loop-index l = leads_in l.nodes l.slot l.index l.me ≡ false
