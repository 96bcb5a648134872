use Rattle.std.proofs.Common.{◌∙◌, Bor, List, ap, map, subst, sym}
use Rattle.std.specs.Prelude.{All}
use Rattle.scp_line.specs.scp_ledger.specs.declared.journal.Fate.{Fate}
use Rattle.scp_account.specs.Fits.{FitsEntry}
use Rattle.scp_account.specs.inside.Spoken.{entries_or_none}
use Rattle.scp_account.proofs.decisions.decision_value.Goals as goal

pub returns-in-Some-clause-only_memory : goal.returns-in-Some-clause-only_memory
returns-in-Some-clause-only_memory c = λ own all.
    c.decision_by.ensures.only_memory own
    (subst (λ (entries : List Fate). All FitsEntry entries)
    (sym (ap entries_or_none c.in-Some.ensures.value) ∙ ap (λ (l : List (Bor Fate)). map (λ fate. fate.now) l) (sym c.as_slice.ensures.value))
    all)
