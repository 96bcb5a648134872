-- What is parked: a queue for each open connection.
use Rattle.std.specs.Prelude.{ℕ, Bool, true, false, not, ◌||◌, nat_eq, List, [], ◌∷◌, ◌++◌, Option, Some, None, map, filter, flat_map, option_map, if◌then◌else◌}
use Rattle.std.specs.List.{list_any}
use Rattle.std.specs.Option.{option_or}
use Rattle.scp_wire.specs.scp_types.specs.declared.names.ConnId.{ConnId}
use Rattle.scp_wire.specs.scp_types.specs.declared.names.Hash.{Hash}
use Rattle.scp_wire.specs.scp_types.specs.declared.names.NodeId.{NodeId}
use Rattle.scp_wire.specs.scp_types.specs.declared.names.Seq.{Seq}
use Rattle.scp_wire.specs.scp_quorum.specs.QuorumTree.{QuorumTree}
use Rattle.scp_wire.specs.scp_quorum.specs.QuorumKind.{set_hash}
use Rattle.scp_wire.specs.scp_envelope.specs.Kinds.{set_hash_of}
use Rattle.scp_wire.specs.declared.carried.Carried.{Carried}
use Rattle.scp_wire.specs.declared.message.Message.{Message}
use Rattle.scp_wire.specs.declared.message.Message.TheVariants.{Envelope, GetSet, Set, NoSet, GetRecord, Record, Records}
use Rattle.scp_wire.specs.Connections.{same_node, same_conn}
use Rattle.scp_wire.specs.Lanes.{slot_of}
use Rattle.scp_fetch.specs.Hashes.{same_hash}
use Rattle.scp_pending.specs.declared.parked.Parked.{Parked}
use Rattle.scp_pending.specs.declared.parked.Parked.TheVariants.{Waits, Free, Lost}
use Rattle.scp_pending.specs.declared.ready.DropCause.{DropCause}
use Rattle.scp_pending.specs.declared.ready.Ready.{Ready}
use Rattle.scp_pending.specs.declared.ready.Ready.TheVariants.{Deliver, Dropped}

-- an open connection, and what is parked of it, in order
pub record QueueView : Type 0 where
  pub conn : ConnId
  pub parked : List Parked

-- whether it is the queue of the connection
abbrev pub is_of : ConnId → QueueView → Bool
is_of c q = same_conn q.conn c

-- a connection is open if it has a queue
abbrev pub is_open : ConnId → List QueueView → Bool
is_open c queues = list_any (is_of c) queues

-- whether some connection from the node is open
abbrev pub is_link_open : NodeId → List QueueView → Bool
is_link_open peer queues = list_any (λ q. same_node q.conn.from peer) queues

-- what is parked of a connection, in order
abbrev pub parked_of : ConnId → List QueueView → List Parked
parked_of c [] = []
parked_of c (q ∷ qs) = if is_of c q then q.parked else parked_of c qs

-- the queues without that of the connection
abbrev pub others : ConnId → List QueueView → List QueueView
others c [] = []
others c (q ∷ qs) = if is_of c q then qs else q ∷ others c qs

-- the queues, with that of the connection changed
abbrev pub changed : ConnId → (QueueView → QueueView) → List QueueView → List QueueView
changed c f [] = []
changed c f (q ∷ qs) = if is_of c q then f q ∷ qs else q ∷ changed c f qs

-- the hash of the quorum set that an envelope names; no other message names one
abbrev pub named : Message → Option Hash
named (Envelope envelope) = Some (set_hash_of envelope.value.statement.pledges)
named (GetSet hash) = None
named (Set set) = None
named (NoSet hash) = None
named (GetRecord slot) = None
named (Record slot value) = None
named (Records first values) = None

-- the hash that names the set: the SHA-256 (FIPS 180-4) of its encoding
abbrev pub hash_of : QuorumTree → Hash
hash_of set = record { 0 = set_hash set }

-- whether there is a hash, and it is this one
abbrev pub is_hash : Hash → Option Hash → Bool
is_hash hash None = false
is_hash hash (Some other) = same_hash hash other

-- whether the parked message waits for this hash
abbrev pub waits_for : Hash → Parked → Bool
waits_for hash (Waits x) = is_hash hash (named x.message)
waits_for hash (Free delivery) = false
waits_for hash (Lost x cause) = false

-- the hash that the parked message waits for, if it waits
abbrev pub waited_by : Parked → Option Hash
waited_by (Waits x) = named x.message
waited_by (Free delivery) = None
waited_by (Lost x cause) = None

-- whether some parked message of the connection waits for the hash
abbrev pub is_waiting : ConnId → Hash → List QueueView → Bool
is_waiting c hash queues = list_any (waits_for hash) (parked_of c queues)

-- the slot that a parked message names, which with its connection is its lane (this project's profile)
abbrev pub lane_of : Parked → ℕ
lane_of (Waits x) = slot_of x.message
lane_of (Free delivery) = slot_of delivery.message
lane_of (Lost x cause) = slot_of x.message

-- whether the parked message names the slot
abbrev pub is_at : ℕ → Parked → Bool
is_at s p = nat_eq (lane_of p) s

-- what is parked in this slot's lane, in order
abbrev pub at_slot : ℕ → List Parked → List Parked
at_slot s ps = filter (is_at s) ps

-- whether the parked message waits for its quorum set
abbrev pub waits : Parked → Bool
waits (Waits x) = true
waits (Free delivery) = false
waits (Lost x cause) = false

-- whether a message stays after those that stay: it waits, or one of its lane stays before it
abbrev pub is_held : List Parked → Parked → Bool
is_held kept p = waits p || list_any (is_at (lane_of p)) kept

-- nothing is parked
abbrev pub is_empty : List Parked → Bool
is_empty [] = true
is_empty (p ∷ ps) = false

-- what is given for a message that leaves
abbrev pub fate : ConnId → Parked → List Ready
fate c (Waits x) = []
fate c (Free delivery) = Deliver delivery ∷ []
fate c (Lost x cause) = Dropped c x.seq cause ∷ []

-- what leaves, after those that stay
abbrev pub leaves_behind : ConnId → List Parked → List Parked → List Ready
leaves_behind c kept [] = []
leaves_behind c kept (p ∷ ps) = if is_held kept p then leaves_behind c (kept ++ p ∷ []) ps else fate c p ++ leaves_behind c kept ps

-- what stays, after those that stay
abbrev pub stays_behind : List Parked → List Parked → List Parked
stays_behind kept [] = []
stays_behind kept (p ∷ ps) = if is_held kept p then p ∷ stays_behind (kept ++ p ∷ []) ps else stays_behind kept ps

-- what leaves a queue: of each lane, all before the first that waits
abbrev pub leaves_of : ConnId → List Parked → List Ready
leaves_of c ps = leaves_behind c [] ps

-- what stays in a queue: each lane from the first that waits on
abbrev pub stays_of : List Parked → List Parked
stays_of ps = stays_behind [] ps

-- the queue with what stays
abbrev pub stays_in : QueueView → QueueView
stays_in q = record q { parked = stays_of q.parked }

-- each queue keeps what stays
abbrev pub served : List QueueView → List QueueView
served queues = map stays_in queues

-- what leaves this queue
abbrev pub leaves_in : QueueView → List Ready
leaves_in q = leaves_of q.conn q.parked

-- what leaves when the queues are served, in this order
abbrev pub leaving_of : List QueueView → List Ready
leaving_of queues = flat_map leaves_in queues

-- whether the head of a queue waits for the hash
abbrev pub is_head_waiting : Hash → List Parked → Bool
is_head_waiting hash [] = false
is_head_waiting hash (p ∷ ps) = waits_for hash p

-- the queues whose heads wait for the hash come before the others
abbrev pub with_first : Hash → List QueueView → List QueueView
with_first hash queues = filter (λ q. is_head_waiting hash q.parked) queues ++ filter (λ q. not (is_head_waiting hash q.parked)) queues

-- the queues whose heads wait for the first of several hashes come first (this project's profile)
abbrev pub in_order_of : List Hash → List QueueView → List QueueView
in_order_of [] queues = queues
in_order_of (hash ∷ hashes) queues = with_first hash (in_order_of hashes queues)

-- a parked message that waits, if the test holds for its hash, becomes what f says
abbrev pub resolved_one : (Option Hash → Bool) → (Carried → Parked) → Parked → Parked
resolved_one test f (Waits x) = if test (named x.message) then f x else Waits x
resolved_one test f (Free delivery) = Free delivery
resolved_one test f (Lost x cause) = Lost x cause

-- the same in one queue
abbrev pub resolved_in : (Option Hash → Bool) → (Carried → Parked) → QueueView → QueueView
resolved_in test f q = record q { parked = map (resolved_one test f) q.parked }

-- the same in each queue
abbrev pub resolved : (Option Hash → Bool) → (Carried → Parked) → List QueueView → List QueueView
resolved test f queues = map (resolved_in test f) queues

-- the message waits for nothing, and has this set
abbrev pub with_set : Option QuorumTree → Carried → Parked
with_set set x = Free (record { conn = x.conn; seq = x.seq; message = x.message; set = set })

-- the envelope is lost
abbrev pub lost_by : DropCause → Carried → Parked
lost_by cause x = Lost x cause

-- the queue with one more message at its end
abbrev pub with_parked : Parked → QueueView → QueueView
with_parked p q = record q { parked = q.parked ++ p ∷ [] }

-- the message is parked at the end of its connection's queue; if it is the first there, that queue goes after the others
abbrev pub parked_in : ConnId → Parked → List QueueView → List QueueView
parked_in c p queues = if is_empty (parked_of c queues) then others c queues ++ record { conn = c; parked = p ∷ [] } ∷ [] else changed c (with_parked p) queues

-- the number of a parked message
abbrev pub seq_of : Parked → Seq
seq_of (Waits x) = x.seq
seq_of (Free delivery) = delivery.seq
seq_of (Lost x cause) = x.seq

-- the first parked message that waits for a hash: its number, and the hash
abbrev pub first_waiting : List Parked → Option (Seq × Hash)
first_waiting [] = None
first_waiting (p ∷ ps) = option_or (option_map (λ hash. (seq_of p, hash)) (waited_by p)) (first_waiting ps)

-- a parked message, dropped
abbrev pub dropped : ConnId → DropCause → Parked → Ready
dropped c cause p = Dropped c (seq_of p) cause
