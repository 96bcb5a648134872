-- What is reported of a node keeps the headline.
use Rattle.std.proofs.Common.{ℕ, List, sym, subst}
use Rattle.scp_workers.specs.scp_driver.specs.Driver.{Says}
use Rattle.scp_workers.specs.scp_ledger.specs.declared.journal.Decision.{Decision}
use Rattle.scp_workers.specs.scp_ledger.specs.declared.journal.Fate.{Fate}
use Rattle.scp_workers.specs.scp_theorem.specs.Books.{books_of, LedgerKeepsHeadline}
use Rattle.scp_workers.specs.scp_theorem.specs.Headline.{Books, Headline}
use Rattle.scp_gather.specs.Gathered.{account_gathered}
use Rattle.scp_gather.specs.Headline.{ReportsKeepHeadline}

module _ {D : Type 0} (says : Says D) where
  pub reports_keep_headline : LedgerKeepsHeadline says.level says.extracted says.combined says.place → ReportsKeepHeadline says
  reports_keep_headline law = λ me set peers e journal parked applied is.
      let books : Books = books_of (account_gathered me set peers e) in
      let begun : Headline (record books { first = 1 }) = subst (λ (n : ℕ). Headline (record books { first = n })) is.gathered.first (law (account_gathered me set peers e) is.gathered.keeps) in
      let told : Headline (record books { first = 1; journal = journal }) = subst (λ (j : List Fate). Headline (record books { first = 1; journal = j })) (sym is.journal_is) begun in
      subst (λ (d : List Decision). Headline (record books { first = 1; journal = journal; applied = d })) (sym is.applied_is) told
