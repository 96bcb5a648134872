use Rattle.std.proofs.Common.{◌≡◌, count_by, length}
use Rattle.scp_quorum.specs.Quorum.{IsWithin}
use Rattle.scp_quorum.specs.inside.Quorum.{KeepsQuorums}
use Rattle.scp_quorum.specs.Places.{marked, shared_set}
use Rattle.scp_quorum.proofs.quorum.places.greatest_quorum_among.Given as goal

abbrev pub invariant-loop : goal.invariant-loop
invariant-loop g l =
    record {
      within : IsWithin (marked (g.P.Places.place l.places) l.marks) (marked (g.P.Places.place l.places) l.initial.marks);
      kept : KeepsQuorums (shared_set (g.P.Places.place l.places) l.seats l.sets) (marked (g.P.Places.place l.places) l.initial.marks) (marked (g.P.Places.place l.places) l.marks);
      len : length l.marks ≡ length l.initial.marks;
    }

abbrev pub decreases-loop : goal.decreases-loop
decreases-loop g l = count_by (λ b. b) l.marks
