use Rattle.std.proofs.Common.{◌∙◌, ◌++◌, ℕ, List, refl, ap}
use Rattle.scp_script_check.specs.Texts.{warnings_text}
use Rattle.scp_trace.proofs.playing.ended.Goals as goal

pub returns-clause-told : goal.returns-clause-told
returns-clause-told c = λ far.
    let ended = c.in_ok-write_end.ensures.added far in
    let found = c.in_ok-write_warnings.ensures.added in (
      ended.0,
      found.0,
      ended.2,
      found.1,
      found.2 ∙ ap (λ (l : List ℕ). l ++ warnings_text found.0) ended.1,
      refl,
    )
