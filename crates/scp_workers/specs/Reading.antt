-- The stage that reads a link.
use Rattle.std.specs.Prelude.{◌≡◌, List, [], IfSome, is_some}
use Rattle.scp_theorem.specs.scp_wire.specs.declared.link.LinkItem.{LinkItem}
use Rattle.scp_theorem.specs.scp_wire.specs.declared.link.Inbound.{Inbound}
use Rattle.scp_theorem.specs.scp_wire.specs.LinkReading.{HasRead}
use Rattle.scp_theorem.specs.scp_ledger.specs.declared.took.Outgoing.{Outgoing}
use Rattle.scp_workers.specs.declared.reading.ReadingStage.{ReadingStage}
use Rattle.scp_workers.specs.Working.{Work, End, HasRun}

-- what contracts see of the worker that reads a link
abbrev pub ReaderWork : Type 0
ReaderWork = Work LinkItem Inbound ReadingStage

-- and of what it ends with
abbrev pub ReaderEnd : Type 0
ReaderEnd = End LinkItem Inbound ReadingStage

-- Its reader took these items of the link, from the first one on, gave these things, and has the rest of what the items are read as. It hands
-- nothing out. It keeps exactly these items if the first one kept what it takes, and else nothing.
pub record Reads (first : ReadingStage) (took : List LinkItem) (gave : List Inbound) (out : List Outgoing) (now : ReadingStage) : Type 0 where
  pub read : HasRead took gave now.reader
  pub no_out : out ≡ []
  pub kept : IfSome now.kept (λ items. items.items ≡ took)
  pub keeps : is_some now.kept ≡ is_some first.kept

-- nothing is left of a batch
abbrev pub HasNoRest : ReadingStage → Type 0
HasNoRest now = now.reader.rest ≡ []

-- the link ended, and what was sent is all that the received items are read as
abbrev pub HasReadAll : ReaderEnd → Type 0
HasReadAll e = HasRun Reads HasNoRest e
