use Rattle.std.proofs.Common.{take}
use Rattle.std.specs.List.{All}
use Rattle.scp_quorum.specs.NodeSet.{is_in}
use Rattle.scp_quorum_search.specs.inside.Losses.{IsNeeded}
use Rattle.scp_quorum_search.proofs.going.is_smallest.Given as goal

abbrev pub invariant-loop-node : goal.invariant-loop-node
invariant-loop-node l = All (IsNeeded l.quest l.at (is_in l.lost)) (take l.node-index l.quest.all.now)
