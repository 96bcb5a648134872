use Rattle.scp_command.proofs.Causing.{read_cause}
use Rattle.scp_command.proofs.looks.of_read.Goals as goal

pub returns : goal.returns
returns c = λ input given bad. read_cause input c.args.given.now c.args.fault c.of_unread.result given bad c.of_unread.ensures
