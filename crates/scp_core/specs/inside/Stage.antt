-- The slot stage as the code keeps it; nothing here need be believed.
use Rattle.std.specs.Prelude.{◌≡◌, true, List, Option, Some, None, take}
use Rattle.scp_theorem.specs.scp_driver.specs.Driver.{Says}
use Rattle.scp_theorem.specs.scp_outbox.specs.Outbox.{OutboxView}
use Rattle.scp_theorem.specs.scp_pending.specs.declared.ready.Ready.{Ready}
use Rattle.scp_theorem.specs.scp_ledger.specs.declared.took.Took.{Took}
use Rattle.scp_theorem.specs.scp_ledger.specs.Ledger.{IsLedger}
use Rattle.scp_core.specs.declared.stage.Shown.{Shown}
use Rattle.scp_core.specs.declared.stage.Given.{Given}
use Rattle.scp_theorem.specs.scp_ledger.specs.Seen.{LedgerView}
use Rattle.scp_theorem.specs.scp_ledger.specs.By.{TakesBy, TellsBy, RunsBy}
use Rattle.scp_core.specs.Node.{HandsEach, said_in}

module _ {D : Type 0} where
  -- a ledger; of one that failed, its lists cut to what is shown
  abbrev pub shown : Option Shown → LedgerView D → LedgerView D
  shown None v = v
  shown (Some so_much) v = record v { failed = true; journal = take so_much.journal v.journal; decisions = take so_much.decisions v.decisions }

  -- the lists that a failed node shows are as before
  abbrev pub Shows : LedgerView D → LedgerView D → Type 0
  Shows old new = (new.journal ≡ old.journal) × (new.decisions ≡ old.decisions) × (new.asked ≡ old.asked)

module _ {D : Type 0} (says : Says D) where
  -- a thing is taken, and what goes out is put into the outboxes
  pub record TakesOut (old : LedgerView D) (boxes : List OutboxView) (x : Ready) (given : Given) (new : LedgerView D) (after' : List OutboxView) : Type 0 where
    pub took : Took
    pub takes : TakesBy says old x took new
    pub tells : TellsBy says old x took
    pub onward_is : took.onward ≡ given.onward
    pub command_is : took.command ≡ given.command
    pub said_is : said_in took.outgoing ≡ given.said
    pub known : IsLedger new
    pub running : RunsBy says new
    pub hands : HandsEach boxes took.outgoing after'
