use Rattle.std.proofs.Common.{List, ℕ, inl, inr, subst}
use Rattle.scp_draw.specs.scp_trace.specs.Traced.{IsTraced}
use Rattle.scp_command.proofs.Standing.{either_memory}
use Rattle.scp_command.proofs.looks.traced.Goals as goal

pub returns-in-Some-clause-cause : goal.returns-in-Some-clause-cause
returns-in-Some-clause-cause c = elim (either_memory c.in-Some.fault.fault) [
  | inl memory ↦ inl (inl (c.of_play.ensures.memory memory))
  | inr other ↦ inr (record {
    given = c.in_ok-given.given;
    is_given = c.in_ok-given.ensures.given;
    told = c.in-Ok.told;
    is_told = subst (λ (text : List ℕ). IsTraced c.args.depth text c.in-Ok.told) c.as_slice.ensures.value c.in-Ok.ensures.told;
    fault = c.in-Some.fault;
    ended = c.in-Some.is;
    of_stop = c.of_play.ensures.stop other;
  })
]

pub returns-in-Ok-clause-answer : goal.returns-in-Ok-clause-answer
returns-in-Ok-clause-answer c = record {
  given = c.in_ok-given.given;
  is_given = c.in_ok-given.ensures.given;
  told = c.in-Ok.told;
  is_told = subst (λ (text : List ℕ). IsTraced c.args.depth text c.in-Ok.told) c.as_slice.ensures.value c.in-Ok.ensures.told;
  whole = c.in-None.is;
  just = c.of_text.ensures;
}
