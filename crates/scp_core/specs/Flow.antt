-- A running node and its past: each queue and each hand has what was put there and not taken.
use Rattle.std.specs.Prelude.{ℕ, ◌+◌, ◌≤◌, ◌≡◌, false, List, ◌++◌, Option, Some, None, length, slice_get, option_to_list, take, drop}
use Rattle.scp_theorem.specs.scp_driver.specs.Driver.{Says}
use Rattle.scp_theorem.specs.scp_types.specs.declared.names.NodeId.{NodeId}
use Rattle.scp_theorem.specs.scp_wire.specs.declared.link.Inbound.{Inbound}
use Rattle.scp_theorem.specs.scp_wire.specs.LinkReading.{unread, after_all}
use Rattle.scp_theorem.specs.scp_wire.specs.Shape.{AreOfLink, never_open, of_peer}
use Rattle.scp_theorem.specs.scp_pending.specs.declared.ready.Ready.{Ready}
use Rattle.scp_theorem.specs.scp_pending.specs.Pends.{Pends}
use Rattle.scp_theorem.specs.scp_ledger.specs.declared.took.Onward.{Onward}
use Rattle.scp_theorem.specs.scp_apply.specs.Applies.{Applies}
use Rattle.scp_theorem.specs.scp_ledger.specs.By.{JournalsBy}
use Rattle.scp_core.specs.History.{OnLink, Past, tail_of, readings_of, read_so_far}
use Rattle.scp_core.specs.Node.{LinkView, NodeView}
use Rattle.scp_theorem.specs.scp_pending.specs.Peers.{AreApart}

-- one link: its tail, its queue, its reader and the reader's hand
pub record LinkFlows (me peer : NodeId) (room : ℕ) (o : OnLink) (k : LinkView) : Type 0 where
  pub tail : tail_of o ≡ record { life = k.life; is_open = k.is_open }
  pub shape : AreOfLink peer me never_open o.items
  pub room_is : k.room ≡ room
  pub within : o.taken ≤ length o.items
  pub queue : k.queue ≡ drop o.taken o.items
  pub reader : k.reader ≡ after_all unread (take o.taken o.items)
  pub given : o.given ≤ length (read_so_far o)
  pub hand : k.hand ≡ drop o.given (read_so_far o)

-- what a stage passed on: what the next one took, then the queue between, then the stage's hand
abbrev pub IsOnWay : {X : Type 0} → List X → List X → List X → Option X → Type 0
IsOnWay gone taken queue hand = gone ≡ taken ++ (queue ++ option_to_list hand)

module _ {D : Type 0} (says : Says D) where
  -- Of a node that runs: each queue and hand has what was put there and not taken, and each stage is, for what it took, as its own contract says.
  pub record Flows (p : Past) (v : NodeView D) : Type 0 where
    pub runs : v.failed ≡ false
    pub whole : v.fault ≡ None
    pub rooms : (v.inbox_room ≡ v.config.capacities.inbox) × (v.ready_room ≡ v.config.capacities.ready) × (v.decided_room ≡ v.config.capacities.decided)
    -- one link for each peer, and no peer twice
    pub count : length v.links ≡ length v.config.peers
    pub apart : AreApart v.config.peers
    pub links : (l : ℕ) → (k : LinkView) → slice_get v.links l ≡ Some k → (peer : NodeId) → slice_get v.config.peers l ≡ Some peer → LinkFlows v.config.me peer v.config.capacities.link (p.links l) k
    pub came : (l : ℕ) → (peer : NodeId) → slice_get v.config.peers l ≡ Some peer → of_peer peer p.came ≡ take (p.links l).given (readings_of (p.links l))
    -- the pending stage, with the node's own quorum set, took all that came except what the inbox holds
    pub local : v.pending.settled.store.local ≡ v.config.set
    pub arrived : List Inbound
    pub inbox : p.came ≡ arrived ++ v.inbox
    pub given : List Ready
    pub pending : Pends v.config.me v.config.peers arrived given v.pending
    pub took : List Ready
    pub ready : IsOnWay given took v.ready v.pend_hand
    pub onwards : List Onward
    pub journal : JournalsBy says v.config.me v.config.set v.config.peers took onwards v.ledger
    pub applied : List Onward
    pub decided : IsOnWay onwards applied v.decided v.slot_hand
    pub applier : Applies applied v.applier
    -- the slot stage and the applier began with the same slot
    pub first : v.applier.first ≡ v.ledger.first
    -- lengths by what was put and taken
    pub ready_count : p.ready_put ≡ p.ready_taken + length v.ready
    pub decided_count : p.decided_put ≡ p.decided_taken + length v.decided
