use Rattle.std.proofs.Common.{List, ℕ, subst}
use Rattle.scp_notices.specs.scp_script_check.specs.Lines.{IsNotRead}
use Rattle.scp_command.proofs.Causing.{read_cause}
use Rattle.scp_command.proofs.given.commands_of.Goals as goal

pub returns-in-Err-clause-cause : goal.returns-in-Err-clause-cause
returns-in-Err-clause-cause c = λ input given.
    let bad = subst (λ (text : List ℕ). IsNotRead text c.in-Err.fault) c.as_slice.ensures.value c.in-Err.ensures.cause in
    read_cause input c.args.given.now c.in-Err.fault c.of_unread.result given bad c.of_unread.ensures
