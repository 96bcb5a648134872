-- The headline of a node that has ended: of what went over its links, and of what its report shows.
use Rattle.std.specs.Prelude.{ℕ, List, Some}
use Rattle.scp_workers.specs.scp_driver.specs.Driver.{Says}
use Rattle.scp_workers.specs.scp_types.specs.declared.names.NodeId.{NodeId}
use Rattle.scp_workers.specs.scp_quorum.specs.QuorumTree.{QuorumTree}
use Rattle.scp_workers.specs.scp_wire.specs.declared.carried.Carried.{Carried}
use Rattle.scp_workers.specs.scp_ledger.specs.declared.journal.Decision.{Decision}
use Rattle.scp_workers.specs.scp_ledger.specs.declared.journal.Fate.{Fate}
use Rattle.scp_workers.specs.scp_theorem.specs.Books.{books_of}
use Rattle.scp_workers.specs.scp_theorem.specs.Headline.{Books, Headline, HeadlineWithState}
use Rattle.scp_gather.specs.declared.gathering.NodeReport.{NodeReport}
use Rattle.scp_gather.specs.Gathered.{account_gathered}
use Rattle.scp_gather.specs.Left.{Left}
use Rattle.scp_gather.specs.Report.{IsReportOf}

module _ {D : Type 0} where
  -- its books, from slot 1 on: what went over its links and what it still holds, from what its threads left; the journal and the applied list
  -- are its report's
  abbrev pub books_reported : NodeId → QuorumTree → List NodeId → Left D → List Fate → List Decision → Books
  books_reported me set peers e journal applied = record (books_of (account_gathered me set peers e)) { first = 1; journal = journal; applied = applied }

module _ {D S : Type 0} (start : S) (after' : S → List ℕ → S) where
  -- the headline holds of what went over a node's links, and of what its report shows, with the state
  abbrev pub IsReportHeadlined : NodeId → QuorumTree → List NodeId → Left D → NodeReport D S → Type 0
  IsReportHeadlined me set peers e r = HeadlineWithState start after' (books_reported me set peers e r.journal.items r.applied.items) (Some r.state)

module _ {D : Type 0} (says : Says D) where
  -- the headline holds of a node's report
  abbrev pub ReportsKeepHeadline : Type 0
  ReportsKeepHeadline = (me : NodeId) (set : QuorumTree) (peers : List NodeId) (e : Left D) (journal : List Fate) (parked : List Carried) (applied : List Decision) → IsReportOf says me set peers e journal parked applied → Headline (books_reported me set peers e journal applied)
