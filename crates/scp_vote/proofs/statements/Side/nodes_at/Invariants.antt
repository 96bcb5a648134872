use Rattle.std.proofs.Common.{◌≡◌, true}
use Rattle.scp_quorum.specs.NodeSet.{is_in}
use Rattle.scp_quorum.specs.Places.{marked}
use Rattle.scp_vote.specs.inside.Seats.{place_in}
use Rattle.scp_vote.proofs.Picking.{IsPicking}
use Rattle.scp_vote.proofs.statements.Side.nodes_at.Given as goal

abbrev pub invariant-loop-node : goal.invariant-loop-node
invariant-loop-node l = IsPicking (λ v. marked (place_in l.self.table.now.entries) l.marks v ≡ true) (is_in l.nodes) l.node-iterator
