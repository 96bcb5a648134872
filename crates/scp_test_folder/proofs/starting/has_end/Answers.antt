use Rattle.scp_test_folder.proofs.Lines.{ends}
use Rattle.scp_test_folder.proofs.starting.has_end.Goals as goal

pub returns-in-Some : goal.returns-in-Some
returns-in-Some c = ends c.args.bytes.now _ c.in-Some.ensures.found
