use Rattle.std.proofs.Common.{◌++◌, ◌∙◌, ap, string_bytes}
use Rattle.scp_script_hints.proofs.told.all_text.Goals as goal

pub returns-clause-tells : goal.returns-clause-tells
returns-clause-tells c = (
  string_bytes c.in_ok-out.out,
  string_bytes c.in_ok-halting.halting,
  string_bytes c.in_ok-survived.survived,
  c.in_ok-out.ensures.tells,
  c.in_ok-halting.ensures.tells,
  c.in_ok-survived.ensures.tells,
  c.in_ok-append-2.ensures ∙ ap (λ t. t ++ string_bytes c.in_ok-survived.survived) c.in_ok-append.ensures,
)
