-- What was sent to a node, where it is, and what the node's stages made of it, in plain lists.
use Rattle.std.specs.Prelude.{ℕ, ◌≡◌, List, ◌++◌, Some, slice_get, Option}
use Rattle.scp_outbox.specs.scp_types.specs.declared.names.NodeId.{NodeId}
use Rattle.scp_outbox.specs.scp_quorum.specs.QuorumTree.{QuorumTree}
use Rattle.scp_apply.specs.scp_driver.specs.declared.driver.Level.{Level}
use Rattle.scp_outbox.specs.scp_wire.specs.declared.link.LinkItem.{LinkItem}
use Rattle.scp_outbox.specs.scp_wire.specs.declared.link.Inbound.{Inbound}
use Rattle.scp_outbox.specs.scp_wire.specs.LinkReading.{unread, readings}
use Rattle.scp_outbox.specs.scp_wire.specs.Shape.{AreOfLink, never_open, of_peer}
use Rattle.scp_apply.specs.scp_pending.specs.declared.ready.Ready.{Ready}
use Rattle.scp_apply.specs.scp_pending.specs.Pends.{Pends}
use Rattle.scp_apply.specs.scp_pending.specs.Rules.{PendingView}
use Rattle.scp_apply.specs.scp_ledger.specs.declared.took.Onward.{Onward}
use Rattle.scp_apply.specs.scp_ledger.specs.Journals.{Journals}
use Rattle.scp_apply.specs.scp_ledger.specs.Seen.{LedgerView}
use Rattle.scp_apply.specs.Applier.{ApplierView}
use Rattle.scp_apply.specs.Applies.{Applies}

-- what was sent to a node, where it is, and what its stages made of it
pub record Account (D : Type 0) : Type 0 where
  -- who the node is: its id, its quorum set, and its peers in the order of their links
  pub me : NodeId
  pub set : QuorumTree
  pub peers : List NodeId
  -- what was sent to it over each link
  pub sent : ℕ → List LinkItem
  -- the part of it that isn't in the inbox yet, as it is read
  pub upcoming : ℕ → List Inbound
  -- what waits in the inbox
  pub inbox : List Inbound
  -- what came to the pending stage, and what the stage is now
  pub came : List Inbound
  pub pending : PendingView
  -- what is between the pending stage and the slot stage
  pub on_way : List Ready
  -- the slot stage: the journal, the decisions
  pub ledger : LedgerView D
  -- what is between the slot stage and the applier
  pub onward : List Onward
  -- the applier: what is applied, from the slot on with which the slot stage began too
  pub applier : ApplierView

-- Each link carries what its tail may send. Each stage took, in order, what the one before it gave, except what is still between them. Each
-- stage is, for what it took and gave, as its calls promise. The slot stage and the applier began with the same slot.
pub record Ran {D : Type 0} (level : D → ℕ → List ℕ → Level) (extracted : D → ℕ → List ℕ → Option (List ℕ)) (combined : D → ℕ → List (List ℕ) → List ℕ) (place : D → ℕ → ℕ → ℕ → ℕ) (a : Account D) : Type 0 where
  pub links : (l : ℕ) → (peer : NodeId) → slice_get a.peers l ≡ Some peer → AreOfLink peer a.me never_open (a.sent l)
  pub read : (l : ℕ) → (peer : NodeId) → slice_get a.peers l ≡ Some peer → readings unread (a.sent l) ≡ of_peer peer (a.came ++ a.inbox) ++ a.upcoming l
  pub local : a.pending.settled.store.local ≡ a.set
  pub given : List Ready
  pub pends : Pends a.me a.peers a.came given a.pending
  pub took : List Ready
  pub ready : given ≡ took ++ a.on_way
  pub onwards : List Onward
  pub journals : Journals level extracted combined place a.me a.set a.peers took onwards a.ledger
  pub applied : List Onward
  pub decided : onwards ≡ applied ++ a.onward
  pub applies : Applies applied a.applier
  pub first : a.applier.first ≡ a.ledger.first
