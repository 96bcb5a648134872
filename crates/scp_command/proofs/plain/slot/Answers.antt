use Rattle.std.proofs.Common.{ap, sym, subst}
use Rattle.scp_script_slot.specs.Answers.{IsPlayed}
use Rattle.scp_command.proofs.plain.slot.Goals as goal

pub returns-in-Ok-clause-told : goal.returns-in-Ok-clause-told
returns-in-Ok-clause-told c =
    let answer = c.in-Ok.ensures.answer in
    (answer.0, rw c.into_bytes.ensures.value answer.1)
