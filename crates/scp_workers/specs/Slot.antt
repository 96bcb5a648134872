-- The slot stage, which runs the slots.
use Rattle.std.specs.Prelude.{◌≡◌, List, flat_map, option_to_list}
use Rattle.scp_theorem.specs.scp_driver.specs.Driver.{Says}
use Rattle.scp_theorem.specs.scp_types.specs.declared.names.NodeId.{NodeId}
use Rattle.scp_theorem.specs.scp_quorum.specs.QuorumTree.{QuorumTree}
use Rattle.scp_theorem.specs.scp_pending.specs.declared.ready.Ready.{Ready}
use Rattle.scp_theorem.specs.scp_ledger.specs.declared.took.CommandFate.{CommandFate}
use Rattle.scp_theorem.specs.scp_ledger.specs.declared.took.Onward.{Onward}
use Rattle.scp_theorem.specs.scp_ledger.specs.declared.took.Outgoing.{Outgoing}
use Rattle.scp_theorem.specs.scp_ledger.specs.Runs.{Taking, things, onwards_of, nothing_taken}
use Rattle.scp_theorem.specs.scp_ledger.specs.Seen.{LedgerView}
use Rattle.scp_theorem.specs.scp_ledger.specs.By.{JournalsBy}
use Rattle.scp_theorem.specs.Handed.{outs_of, ServesEach}
use Rattle.scp_workers.specs.declared.slot.SlotStage.{SlotStage}
use Rattle.scp_workers.specs.Working.{Work, End, HasRun}

-- what contracts see of the worker of the slot stage
abbrev pub SlotWork : Type 0 → Type 0
SlotWork D = Work Ready Onward (SlotStage D)

-- and of what it ends with
abbrev pub SlotEnd : Type 0 → Type 0
SlotEnd D = End Ready Onward (SlotStage D)

-- ---- what became of commands

-- the fate that was reported for the thing that was taken, if it is a command other than a Tick
abbrev pub fate_of : Taking → List CommandFate
fate_of t = option_to_list t.gave.command

-- the fates that were reported for all that was taken, in order
abbrev pub fates_of : List Taking → List CommandFate
fates_of takes = flat_map fate_of takes

module _ {D : Type 0} (says : Says D) where
  -- A ledger of this node that had taken nothing took these, one after another, gave these on, and is this one now. This is what it handed
  -- out with them. These are the fates of the commands among them, one each, in order; a Tick has none.
  pub record HaveFates (me : NodeId) (local : QuorumTree) (peers : List NodeId) (took : List Ready) (onwards : List Onward) (outs : List Outgoing) (fates : List CommandFate) (v : LedgerView D) : Type 0 where
    pub takes : List Taking
    pub took_are : things takes ≡ took
    pub onwards_are : onwards_of takes ≡ onwards
    pub outs_are : outs_of takes ≡ outs
    pub fates_are : fates_of takes ≡ fates
    pub told : ServesEach says (nothing_taken me local v.driver peers v.first) takes v

  -- ---- all that it did

  -- a ledger of the first one's node, which began with slot 1, took these, gave these on and handed these out; the kept fates are those of the
  -- commands among them
  pub record JournalsFrom (first : SlotStage D) (took : List Ready) (gave : List Onward) (out : List Outgoing) (now : SlotStage D) : Type 0 where
    pub journals : JournalsBy says first.ledger.me first.ledger.local first.ledger.peers took gave now.ledger
    pub told : HaveFates first.ledger.me first.ledger.local first.ledger.peers took gave out now.fates.items now.ledger
    pub from_one : now.ledger.first ≡ 1

module _ {D : Type 0} where
  -- nothing is left to give: what it gives it gives at once
  abbrev pub HasNoneLeft : SlotStage D → Type 0
  HasNoneLeft now = Unit {0}

module _ {D : Type 0} (says : Says D) where
  -- the pending stage ended; the ledger took what was received, gave what was sent, and handed out what was put into the outboxes
  abbrev pub HasJournaledAll : SlotEnd D → Type 0
  HasJournaledAll e = HasRun (JournalsFrom says) HasNoneLeft e

-- ---- whose it is

module _ {D : Type 0} where
  -- the ledger is this node's
  pub record IsFor (me : NodeId) (peers : List NodeId) (local : QuorumTree) (v : LedgerView D) : Type 0 where
    pub me_is : v.me ≡ me
    pub peers_are : v.peers ≡ peers
    pub local_is : v.local ≡ local
