use Rattle.scp_line.proofs.threads.run_in_threads.Goals as goal

pub run_lines-requires-clause-room : goal.run_lines-requires-clause-room
run_lines-requires-clause-room g c = λ lives outlive. c.requires.room
