use Rattle.std.proofs.Common.{take}
use Rattle.scp_quorum.specs.NodeSet.{is_in}
use Rattle.scp_quorum_search.proofs.Ordering.{IsRanking}
use Rattle.scp_quorum_search.proofs.order.rank_all.Given as goal

abbrev pub invariant-loop-member : goal.invariant-loop-member
invariant-loop-member l = IsRanking (is_in l.liars) l.members l.found.items (take l.member-index l.members) l.member-index
