use Rattle.scp_shared_outbox.specs.declared.turn.Turn.TheVariants.{Gives}
use Rattle.scp_shared_outbox.proofs.desk.give.Given as goal

abbrev pub ghosts-tell_given : goal.ghosts-tell_given
ghosts-tell_given g a = record { turn = Gives a.given.now }
