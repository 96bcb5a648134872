use Rattle.scp_ends.proofs.make.ends_of.Given as goal

abbrev pub ghosts-size : goal.ghosts-size
ghosts-size g a = record { room = a.capacity }
