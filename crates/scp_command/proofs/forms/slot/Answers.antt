use Rattle.std.proofs.Common.{string_bytes}
use Rattle.scp_command.proofs.forms.slot.Goals as goal

pub returns-in-Ok-clause-answer : goal.returns-in-Ok-clause-answer
returns-in-Ok-clause-answer c = record {
  digits = c.in_ok-digits.digits.items;
  written = c.in_ok-digits.ensures.written;
  script = c.in-Ok.ensures.answer.0;
  text = string_bytes c.in-Ok.answers;
  played = c.in-Ok.ensures.answer.1;
  just = c.of_text.ensures;
}
