use Rattle.std.proofs.Common.{take, ℕ, List}
use Rattle.std.specs.BTreeMap as tree
use Rattle.scp_ballot_rules.specs.scp_envelope.specs.Ballots.{value_cmp}
use Rattle.scp_stand_needs.specs.inside.Found.{IsGreatest}
use Rattle.scp_stand_needs.proofs.Counters.{At}
use Rattle.scp_stand_needs.proofs.balloted.greatest.Given as goal

-- of the ballots so far
abbrev pub invariant-loop-ballot : goal.invariant-loop-ballot
invariant-loop-ballot l = (v : List ℕ) → IsGreatest (At (take l.ballot-index l.ballots) v) (tree.get value_cmp l.counters v)
