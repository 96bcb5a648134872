use Rattle.std.proofs.Common.{List, ℕ, IsUtf8, refl, subst}
use Rattle.scp_sim_findings.proofs.running.sets_of.Goals as goal

-- what the lines come to is no text
pub returns-in_default-clause-refused : goal.returns-in_default-clause-refused
returns-in_default-clause-refused c =
    (c.in-Ok.digits.items, c.in-Ok.ensures.written, subst (λ (t : List ℕ). ¬ (IsUtf8 t)) c.as_slice.ensures.value c.in_default.ensures.cases.0, refl)
