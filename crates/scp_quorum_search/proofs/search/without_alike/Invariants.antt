use Rattle.std.proofs.Common.{take}
use Rattle.scp_quorum.specs.NodeSet.{is_in}
use Rattle.scp_quorum_search.specs.inside.Search.{MaySwap}
use Rattle.scp_quorum_search.proofs.Sets.{IsSifting}
use Rattle.scp_quorum_search.proofs.search.without_alike.Given as goal

abbrev pub invariant-loop-other : goal.invariant-loop-other
invariant-loop-other l = IsSifting l.left (MaySwap (is_in l.quest.liars.now) l.quest.members.now l.node) l.found.items (take l.other-index l.left) l.other-index
