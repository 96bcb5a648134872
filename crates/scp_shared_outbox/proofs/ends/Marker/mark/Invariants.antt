use Rattle.scp_shared_outbox.specs.declared.turn.Turn.TheVariants.{Marks}
use Rattle.scp_shared_outbox.proofs.ends.Marker.mark.Given as goal

abbrev pub ghosts-mark : goal.ghosts-mark
ghosts-mark g a = record { turn = Marks a.mark }
