use Rattle.std.proofs.Common.{◌≡◌, ◌++◌, drop, filter}
use Rattle.scp_slot.specs.scp_vote.specs.Seen.{seen}
use Rattle.scp_slot.specs.scp_vote.specs.declared.claim.StatementKind.TheVariants.{Balloting}
use Rattle.scp_slot.specs.scp_nominate.specs.Heard.{heard}
use Rattle.scp_stand_slot.specs.Machine.{is_silent}
use Rattle.scp_stand_slot.proofs.facts.silent.Given as goal

-- with those of what is left they are all
abbrev pub invariant-loop-node : goal.invariant-loop-node
invariant-loop-node l =
    l.nodes.items ++ filter (is_silent l.me (heard l.nominations) (seen Balloting l.ballots)) (drop l.node-index l.members) ≡ filter (is_silent l.me (heard l.nominations) (seen Balloting l.ballots)) l.members
