use Rattle.std.proofs.Common.{take}
use Rattle.scp_quorum.specs.inside.Marks.{AreVerdicts}
use Rattle.scp_quorum.proofs.quorum.places.judge.Given as goal

abbrev pub invariant-loop-set : goal.invariant-loop-set
invariant-loop-set g l = AreVerdicts (g.N.Nodes.members l.nodes) (take l.set-index l.sets) l.verdicts.items
