use Rattle.scp_shared_outbox.specs.declared.turn.Turn.TheVariants.{Puts}
use Rattle.scp_shared_outbox.proofs.ends.Putter.put.Given as goal

abbrev pub ghosts-put : goal.ghosts-put
ghosts-put g a = record { turn = Puts a.number a.message }
