use Rattle.std.proofs.Common.{List, subst, sym}
use Rattle.std.specs.Prelude.{All}
use Rattle.std.proofs.lemmas.List.Elements.{All-filter}
use Rattle.scp_line.specs.scp_ledger.specs.declared.journal.Fate.{Fate}
use Rattle.scp_line.specs.scp_ledger.specs.Journal.{fresh_heard}
use Rattle.scp_account.specs.Fits.{FitsEntry}
use Rattle.scp_account.specs.inside.Spoken.{is_in_slot}
use Rattle.scp_account.proofs.node.decisions.Goals as goal

pub returns-clause-only_memory : goal.returns-clause-only_memory
returns-clause-only_memory c = λ fits.
    c.decision_values.ensures.only_memory fits.decisions
    (λ slot. subst (λ (l : List Fate). All FitsEntry l) (sym (c.in_ok-spoken.ensures slot)) (All-filter (λ fate. is_in_slot slot (fresh_heard fate)) FitsEntry c.args.report.now.journal.now fits.entries))
