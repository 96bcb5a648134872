use Rattle.std.proofs.Common.{List, ℕ, subst}
use Rattle.scp_draw.specs.Drawn.{IsDrawn}
use Rattle.scp_command.proofs.looks.drawn.Goals as goal

pub returns-in-Ok-clause-answer : goal.returns-in-Ok-clause-answer
returns-in-Ok-clause-answer c = record {
  given = c.in_ok-given.given;
  is_given = c.in_ok-given.ensures.given;
  page = c.in-Ok.page.items;
  drawn = subst (λ (text : List ℕ). IsDrawn text c.in-Ok.page.items) c.as_slice.ensures.value c.in-Ok.ensures.page;
  just = c.of_bytes.ensures;
}
