-- A stage's identity, and that all that it holds belongs to its links.
use Rattle.std.specs.Prelude.{◌≡◌, Bool, true, List}
use Rattle.std.specs.List.{list_any, AllByRecursion}
use Rattle.scp_wire.specs.scp_types.specs.declared.names.ConnId.{ConnId}
use Rattle.scp_wire.specs.scp_types.specs.declared.names.NodeId.{NodeId}
use Rattle.scp_wire.specs.scp_quorum.specs.QuorumTree.{QuorumTree}
use Rattle.scp_wire.specs.declared.link.Inbound.{Inbound}
use Rattle.scp_wire.specs.Connections.{same_node}
use Rattle.scp_pending.specs.declared.parked.Parked.{Parked}
use Rattle.scp_pending.specs.declared.parked.Parked.TheVariants.{Waits, Free, Lost}
use Rattle.scp_pending.specs.declared.ready.Ready.{Ready}
use Rattle.scp_pending.specs.declared.ready.Ready.TheVariants.{Deliver, Dropped, Closed, Local}
use Rattle.scp_pending.specs.Queues.{QueueView, is_open}
use Rattle.scp_pending.specs.Rules.{Settled, fresh, settled_by, released_by}

-- ---- the stage's identity

-- the same node, the same peers, the same quorum set
pub record IsSameNode (old new : Settled) : Type 0 where
  pub me : new.me ≡ old.me
  pub peers : new.peers ≡ old.peers
  pub local : new.store.local ≡ old.store.local

-- it stays the same, whatever is taken
abbrev pub WhoItIsStays : Type 0
WhoItIsStays = (s : Settled) (items : List Inbound) → IsSameNode s (settled_by s items)

-- ---- to whom its things belong

-- the node is one of the peers
abbrev pub is_among : NodeId → List NodeId → Bool
is_among node peers = list_any (λ peer. same_node peer node) peers

-- the connection is from one of the peers, to the node
pub record IsOfLink (me : NodeId) (peers : List NodeId) (conn : ConnId) : Type 0 where
  pub from : is_among conn.from peers ≡ true
  pub to : conn.to ≡ me

-- what is parked belongs to the connection
abbrev pub IsParkedOf : ConnId → Parked → Type 0
IsParkedOf c (Waits x) = x.conn ≡ c
IsParkedOf c (Free delivery) = delivery.conn ≡ c
IsParkedOf c (Lost x cause) = x.conn ≡ c

-- what is ready, or was given, belongs to a connection with P; a command belongs to none
abbrev pub IsReadyOf : (ConnId → Type 0) → Ready → Type 0
IsReadyOf P (Deliver delivery) = P delivery.conn
IsReadyOf P (Dropped conn seq cause) = P conn
IsReadyOf P (Closed conn cause) = P conn
IsReadyOf P (Local command) = Unit {0}

-- only connections of a peer's link are open, what is parked of a connection belongs to it, and all that left belongs to such ones
pub record AreOfLinks (me : NodeId) (peers : List NodeId) (s : Settled) (left : List Ready) : Type 0 where
  pub opened : (c : ConnId) → is_open c s.queues ≡ true → IsOfLink me peers c
  pub held : AllByRecursion (λ (q : QueueView). IsOfLink me peers q.conn × AllByRecursion (IsParkedOf q.conn) q.parked) s.queues
  pub given : AllByRecursion (IsReadyOf (IsOfLink me peers)) left

-- after any items, what is held, and what has left, belongs to a connection from a peer to this node, or is a command
abbrev pub NothingIsOfAStranger : Type 0
NothingIsOfAStranger = (me : NodeId) (peers : List NodeId) (local : QuorumTree) (taken : List Inbound) → AreOfLinks me peers (settled_by (fresh me peers local) taken) (released_by (fresh me peers local) taken)
