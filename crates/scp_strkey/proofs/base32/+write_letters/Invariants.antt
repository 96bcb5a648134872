use Rattle.scp_strkey.proofs.base32.+write_letters.Given as goal

abbrev pub decreases-write_letters : goal.decreases-write_letters
decreases-write_letters l = l.count
