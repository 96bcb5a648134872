use Rattle.std.proofs.Common.{◌≡◌, ◌++◌, drop, filter}
use Rattle.scp_slot.specs.scp_nominate.specs.Heard.{heard}
use Rattle.scp_stand_slot.specs.Machine.{lacks_vote}
use Rattle.scp_stand_slot.proofs.facts.lacking.Given as goal

-- with those of what is left they are all
abbrev pub invariant-loop-leader : goal.invariant-loop-leader
invariant-loop-leader l = l.nodes.items ++ filter (lacks_vote l.me l.proposes (heard l.nominations)) (drop l.leader-index l.leaders) ≡ filter (lacks_vote l.me l.proposes (heard l.nominations)) l.leaders
