use Rattle.std.proofs.Common.{◌≡◌, length}
use Rattle.scp_quorum.specs.Places.{marked}
use Rattle.scp_vote.specs.Claims.{Stands}
use Rattle.scp_vote.specs.declared.claim.Support.TheVariants.{Accepts}
use Rattle.scp_vote.specs.Board.{Has}
use Rattle.scp_vote.specs.inside.Seats.{place_in}
use Rattle.scp_vote.specs.inside.Side.{side}
use Rattle.scp_vote.proofs.Picking.{IsPicking}
use Rattle.scp_vote.proofs.statements.Side.accepting.Given as goal

abbrev pub invariant-loop-entry : goal.invariant-loop-entry
invariant-loop-entry l =
    record {
      picking : IsPicking (Has (side l.self) (Stands Accepts l.claim)) (marked (place_in l.self.table.now.entries) l.accepting.items) l.entry-iterator;
      len : length l.accepting.items ≡ length l.self.table.now.seats.items;
    }
