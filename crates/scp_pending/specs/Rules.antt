-- The rules of the pending stage: what an item makes of what is parked, stored and wanted, what it releases, and what is
-- replied (this project's profile).
use Rattle.std.specs.Prelude.{ℕ, Bool, false, not, ◌&&◌, List, [], ◌∷◌, ◌++◌, Option, Some, None, nat_le, length, map, if◌then◌else◌, position, is_some, fold}
use Rattle.std.specs.Option.{unwrap_or}
use Rattle.scp_wire.specs.scp_types.specs.declared.names.ConnId.{ConnId}
use Rattle.scp_wire.specs.scp_types.specs.declared.names.Hash.{Hash}
use Rattle.scp_wire.specs.scp_types.specs.declared.names.NodeId.{NodeId}
use Rattle.scp_wire.specs.scp_quorum.specs.QuorumTree.{QuorumTree}
use Rattle.scp_wire.specs.declared.carried.Carried.{Carried}
use Rattle.scp_wire.specs.declared.message.Message.{Message}
use Rattle.scp_wire.specs.declared.message.Message.TheVariants as message
use Rattle.scp_wire.specs.declared.side.SideMessage.{SideMessage}
use Rattle.scp_wire.specs.declared.side.SideMessage.TheVariants.{GetSet, Set, NoSet}
use Rattle.scp_wire.specs.declared.link.Cause.TheVariants.{ParkedFull}
use Rattle.scp_wire.specs.declared.link.Command.TheVariants.{Tick, Propose, Round, Timer, Ask}
use Rattle.scp_wire.specs.declared.link.Inbound.{Inbound}
use Rattle.scp_wire.specs.declared.link.Inbound.TheVariants as inbound
use Rattle.scp_wire.specs.Connections.{same_node}
use Rattle.scp_pending.specs.Sanity.{is_sane, has_spelling}
use Rattle.scp_fetch.specs.declared.want.Want.{Want}
use Rattle.scp_fetch.specs.declared.want.Miss.TheVariants.{One, All}
use Rattle.scp_fetch.specs.Wants.{is_wanted, is_asked, wanted_by, left_by, unasked, gives_up, last_missed, missed_by, without}
use Rattle.scp_fetch.specs.Store.{StoreView, lookup, stored}
use Rattle.scp_pending.specs.Queues.{QueueView, is_open, is_link_open, parked_of, others, named, is_hash, hash_of, waited_by, is_held, fate, served, leaving_of, in_order_of, resolved, with_set, lost_by, parked_in, dropped}
use Rattle.scp_pending.specs.declared.pending.TheConstants.{PARKED_LIMIT}
use Rattle.scp_pending.specs.declared.parked.Parked.{Parked}
use Rattle.scp_pending.specs.declared.parked.Parked.TheVariants.{Waits}
use Rattle.scp_pending.specs.declared.ready.DropCause.TheVariants.{BadSet, GaveUp, Closed as ByClose, ParkedFull as ByFull}
use Rattle.scp_pending.specs.declared.ready.Ready.{Ready}
use Rattle.scp_pending.specs.declared.ready.Ready.TheVariants.{Dropped, Closed, Local}

-- what the items that were taken determine
pub record Settled : Type 0 where
  pub me : NodeId
  pub peers : List NodeId  -- by their links' numbers
  pub store : StoreView
  pub wanted : List Want
  pub queues : List QueueView  -- of the open connections, in the order in which they are served

-- a stage: whether it failed, what is settled, and what is on its way out
pub record PendingView : Type 0 where
  pub failed : Bool
  pub settled : Settled
  pub leaving : List Ready

-- a stage that took nothing: it has its own set, and no queue
abbrev pub fresh : NodeId → List NodeId → QuorumTree → Settled
fresh me peers local = record { me = me; peers = peers; store = record { local = local; others = [] }; wanted = []; queues = [] }

-- the place of a peer among the peers, which is the number of its link; none for any other node
abbrev pub link_of : NodeId → Settled → Option ℕ
link_of node s = position (λ peer. same_node peer node) s.peers

-- the number of a peer's link
abbrev pub link_number : NodeId → Settled → ℕ
link_number node s = unwrap_or (link_of node s) 0

-- ---- a connection begins

-- the connection is from a peer's link to this node, and none is open there
abbrev pub opens : ConnId → Settled → Bool
opens c s = is_some (link_of c.from s) && same_node c.to s.me && not (is_link_open c.from s.queues)

-- the connection has an empty queue, and its link may be asked again for what is wanted
abbrev pub opened : ConnId → Settled → Settled
opened c s = record s { queues = s.queues ++ record { conn = c; parked = [] } ∷ []; wanted = unasked (link_number c.from s) s.wanted }

-- ---- a connection ends

-- the connection waits for nothing anymore, and a hash for which no other connection waits isn't wanted anymore
abbrev pub closed_off : ConnId → Settled → Settled
closed_off c s = record s { queues = others c s.queues; wanted = left_by c s.wanted }

-- ---- a carried message

-- the message with the set that was found; without one, it waits
abbrev pub found : Carried → Option QuorumTree → Parked
found x None = Waits x
found x (Some set) = with_set (Some set) x

-- an envelope waits for its set, or has it; nothing else waits
abbrev pub entering_by : Option Hash → StoreView → Carried → Parked
entering_by None store x = with_set None x
entering_by (Some hash) store x = found x (lookup hash store)

-- how a message enters, by the sets that are there
abbrev pub entering : StoreView → Carried → Parked
entering store x = entering_by (named x.message) store x

-- as many messages of the connection are parked as may be (this project's profile: 64)
abbrev pub is_full : ConnId → List QueueView → Bool
is_full c queues = nat_le PARKED_LIMIT (length (parked_of c queues))

-- the message waits for nothing, and nothing of its lane is parked
abbrev pub goes_through : ConnId → Parked → List QueueView → Bool
goes_through c p queues = not (is_held (parked_of c queues) p)

-- the message would be parked, and as many are parked as may be
abbrev pub overflows : ConnId → Parked → List QueueView → Bool
overflows c p queues = is_full c queues && not (goes_through c p queues)

-- what is wanted once a message waits for this hash, if it waits for one
abbrev pub wanted_named : ℕ → ConnId → Option Hash → List Want → List Want
wanted_named link c None wanted = wanted
wanted_named link c (Some hash) wanted = wanted_by hash link c wanted

-- what is wanted once this message is parked
abbrev pub wanted_with : ℕ → ConnId → Parked → List Want → List Want
wanted_with link c p wanted = wanted_named link c (waited_by p) wanted

-- the message is in its queue, and the hash that it waits for is wanted
abbrev pub parks : Carried → Parked → Settled → Settled
parks x p s = record s { queues = parked_in x.conn p s.queues; wanted = wanted_with (link_number x.conn.from s) x.conn p s.wanted }

-- the message passes through, or it is parked
abbrev pub enters : Carried → Parked → Settled → Settled
enters x p s = if goes_through x.conn p s.queues then s else parks x p s

-- what a live carried message makes of what is settled: one too many closes its connection, any other enters
abbrev pub brings : Carried → Settled → Settled
brings x s = if overflows x.conn (entering s.store x) s.queues then closed_off x.conn s else enters x (entering s.store x) s

-- ---- quorum sets

-- with a sane set, the message has its set; with another, it is lost as BadSet
abbrev pub by_answer : QuorumTree → Carried → Parked
by_answer set = if is_sane set then with_set (Some set) else lost_by BadSet

-- a wanted set came: it is stored if it is sane, and what waited for it doesn't wait anymore
abbrev pub answered : QuorumTree → Settled → Settled
answered set s = record s { store = (if is_sane set then stored set s.store else s.store); wanted = without (hash_of set) s.wanted; queues = served (resolved (is_hash (hash_of set)) (by_answer set) s.queues) }

-- whether the set is wanted; a set without an encoding has no hash
abbrev pub is_answer : QuorumTree → Settled → Bool
is_answer set s = has_spelling set && is_wanted (hash_of set) s.wanted

-- whether there is a hash, and one more miss of all gives it up
abbrev pub is_given_up : List Want → Option Hash → Bool
is_given_up wanted None = false
is_given_up wanted (Some hash) = gives_up All wanted hash

-- what a Tick makes of what is settled: each wanted hash is missed once more, and what is given up is lost; if several hashes are
-- given up, the queues whose heads wait for the first wanted one are served first
abbrev pub missed_all : Settled → Settled
missed_all s = record s { wanted = missed_by All s.wanted; queues = served (resolved (is_given_up s.wanted) (lost_by GaveUp) (in_order_of (last_missed s.wanted) s.queues)) }

-- what waits for this hash is lost, and then what may leave leaves
abbrev pub gives_up_one : Hash → Settled → Settled
gives_up_one hash s = record s { queues = served (resolved (is_hash hash) (lost_by GaveUp) s.queues) }

-- what a NoSet makes of what is settled: its hash is missed once more, and given up at the twelfth miss
abbrev pub missed_one : Hash → Settled → Settled
missed_one hash s = if gives_up (One hash) s.wanted hash then gives_up_one hash (record s { wanted = missed_by (One hash) s.wanted }) else record s { wanted = missed_by (One hash) s.wanted }

-- what a live side message makes of what is settled
abbrev pub hears : SideMessage → Settled → Settled
hears (GetSet hash) s = s
hears (Set set) s = if is_answer set s then answered set s else s
hears (NoSet hash) s = missed_one hash s

-- ---- all items

-- what an item makes of what is settled; what isn't live changes nothing
abbrev pub rules : Settled → Inbound → Settled
rules s (inbound.Opened c) = if opens c s then opened c s else s
rules s (inbound.Carried x) = if is_open x.conn s.queues then brings x s else s
rules s (inbound.Side c message) = if is_open c s.queues then hears message s else s
rules s (inbound.Closed c cause) = if is_open c s.queues then closed_off c s else s
rules s (inbound.Local Tick) = missed_all s
rules s (inbound.Local (Propose slot value)) = s
rules s (inbound.Local (Round slot)) = s
rules s (inbound.Local (Timer slot)) = s
rules s (inbound.Local (Ask link slot)) = s

-- what leaves when a live carried message comes
abbrev pub brought : Carried → Settled → List Ready
brought x s = if overflows x.conn (entering s.store x) s.queues then map (dropped x.conn ByFull) (parked_of x.conn s.queues) ++ Dropped x.conn x.seq ByFull ∷ Closed x.conn ParkedFull ∷ [] else (if goes_through x.conn (entering s.store x) s.queues then fate x.conn (entering s.store x) else [])

-- what leaves when a live side message comes
abbrev pub heard_out : SideMessage → Settled → List Ready
heard_out (GetSet hash) s = []
heard_out (Set set) s = if is_answer set s then leaving_of (resolved (is_hash (hash_of set)) (by_answer set) s.queues) else []
heard_out (NoSet hash) s = if gives_up (One hash) s.wanted hash then leaving_of (resolved (is_hash hash) (lost_by GaveUp) s.queues) else []

-- what leaves at an item, in this order
abbrev pub releases : Settled → Inbound → List Ready
releases s (inbound.Opened c) = []
releases s (inbound.Carried x) = if is_open x.conn s.queues then brought x s else []
releases s (inbound.Side c message) = if is_open c s.queues then heard_out message s else []
releases s (inbound.Closed c cause) = if is_open c s.queues then map (dropped c ByClose) (parked_of c s.queues) ++ Closed c cause ∷ [] else []
releases s (inbound.Local Tick) = leaving_of (resolved (is_given_up s.wanted) (lost_by GaveUp) (in_order_of (last_missed s.wanted) s.queues))
releases s (inbound.Local (Propose slot value)) = Local (Propose slot value) ∷ []
releases s (inbound.Local (Round slot)) = Local (Round slot) ∷ []
releases s (inbound.Local (Timer slot)) = Local (Timer slot) ∷ []
releases s (inbound.Local (Ask link slot)) = Local (Ask link slot) ∷ []

-- a request over the link for the set of this hash, if one is named and the link wasn't asked for it
abbrev pub asks_named : ℕ → Option Hash → List Want → Option (ℕ × Message)
asks_named link None wanted = None
asks_named link (Some hash) wanted = if is_asked hash link wanted then None else Some (link, message.GetSet hash)

-- the same, for the set that what is parked waits for
abbrev pub asks : ℕ → Parked → List Want → Option (ℕ × Message)
asks link p wanted = asks_named link (waited_by p) wanted

-- the set with a hash if it is there, else that there is none
abbrev pub answer : Hash → Option QuorumTree → Message
answer hash None = message.NoSet hash
answer hash (Some set) = message.Set set

-- a request for a set is answered on the link to whoever asked; other side messages have no reply
abbrev pub replies : ConnId → SideMessage → Settled → Option (ℕ × Message)
replies c (GetSet hash) s = Some (link_number c.from s, answer hash (lookup hash s.store))
replies c (Set set) s = None
replies c (NoSet hash) s = None

-- the message for one link, if there is one
abbrev pub reply : Settled → Inbound → Option (ℕ × Message)
reply s (inbound.Opened c) = None
reply s (inbound.Carried x) = if is_open x.conn s.queues && not (is_full x.conn s.queues) then asks (link_number x.conn.from s) (entering s.store x) s.wanted else None
reply s (inbound.Side c message) = if is_open c s.queues then replies c message s else None
reply s (inbound.Closed c cause) = None
reply s (inbound.Local command) = None

-- ---- a list of items

-- what a list of items makes of what is settled, one after another
abbrev pub settled_by : Settled → List Inbound → Settled
settled_by s items = fold rules s items

-- all that leaves because of a list of items
abbrev pub released_by : Settled → List Inbound → List Ready
released_by s [] = []
released_by s (item ∷ items) = releases s item ++ released_by (rules s item) items

-- the stage after it took an item: what its rules make of what is settled, and what is released comes after what is leaving
abbrev pub taken_in : PendingView → Inbound → PendingView
taken_in v item = record v { settled = rules v.settled item; leaving = v.leaving ++ releases v.settled item }
