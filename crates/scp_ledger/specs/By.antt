-- The definitions of a ledger, over what its application says of values.
use Rattle.std.specs.Prelude.{List}
use Rattle.scp_slot.specs.scp_types.specs.declared.names.NodeId.{NodeId}
use Rattle.scp_slot.specs.scp_quorum.specs.QuorumTree.{QuorumTree}
use Rattle.scp_slot.specs.scp_driver.specs.Driver.{Says}
use Rattle.scp_pending.specs.declared.ready.Ready.{Ready}
use Rattle.scp_ledger.specs.declared.took.Onward.{Onward}
use Rattle.scp_ledger.specs.declared.took.Took.{Took}
use Rattle.scp_ledger.specs.CommandFates.{TellsFate}
use Rattle.scp_ledger.specs.Journals.{Journals}
use Rattle.scp_ledger.specs.Ledger.{IsRunning}
use Rattle.scp_ledger.specs.Seen.{LedgerView}
use Rattle.scp_ledger.specs.Takes.{Takes}

module _ {D : Type 0} (says : Says D) where
  -- what a ledger gives and leaves when it takes a thing
  abbrev pub TakesBy : LedgerView D → Ready → Took → LedgerView D → Type 0
  TakesBy old x took new = Takes says.level says.extracted says.combined says.place old x took new

  -- what it reports of a command that it takes; of anything else it reports nothing
  abbrev pub TellsBy : LedgerView D → Ready → Took → Type 0
  TellsBy old x took = TellsFate says.level old x took

  -- what holds of a ledger that hasn't failed
  abbrev pub RunsBy : LedgerView D → Type 0
  RunsBy v = IsRunning says.level says.place v

  -- what holds of all that the slot stage took and gave on, and of its ledger
  abbrev pub JournalsBy : NodeId → QuorumTree → List NodeId → List Ready → List Onward → LedgerView D → Type 0
  JournalsBy me local peers took onwards v = Journals says.level says.extracted says.combined says.place me local peers took onwards v
