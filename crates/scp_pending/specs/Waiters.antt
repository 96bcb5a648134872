-- What waits for a quorum set, by what was taken.
use Rattle.std.specs.Prelude.{Bool, not, ◌&&◌, List, [], ◌∷◌, nat_eq, filter, flat_map}
use Rattle.std.specs.List.{list_any}
use Rattle.scp_wire.specs.scp_types.specs.declared.names.ConnId.{ConnId}
use Rattle.scp_wire.specs.scp_types.specs.declared.names.Hash.{Hash}
use Rattle.scp_wire.specs.scp_types.specs.declared.names.Seq.{Seq}
use Rattle.scp_wire.specs.declared.carried.Carried.{Carried}
use Rattle.scp_wire.specs.declared.link.Inbound.{Inbound}
use Rattle.scp_wire.specs.declared.link.Inbound.TheVariants as inbound
use Rattle.scp_wire.specs.Connections.{same_conn}
use Rattle.scp_pending.specs.declared.parked.Parked.{Parked}
use Rattle.scp_pending.specs.Queues.{QueueView, parked_of, waits_for, seq_of}

-- the message of an item, if it is carried
abbrev pub carried_one : Inbound → List Carried
carried_one (inbound.Opened c) = []
carried_one (inbound.Carried x) = x ∷ []
carried_one (inbound.Side c message) = []
carried_one (inbound.Closed c cause) = []
carried_one (inbound.Local command) = []

-- the carried messages among what was taken, in order
abbrev pub carried_in : List Inbound → List Carried
carried_in items = flat_map carried_one items

-- the message is parked with this number, and waits for the hash
abbrev pub waits_under : Hash → Seq → Parked → Bool
waits_under hash seq p = waits_for hash p && nat_eq (seq_of p).0 seq.0

-- what is parked of the message's connection with its number waits for the hash
abbrev pub waits_here : Hash → List QueueView → Carried → Bool
waits_here hash queues x = list_any (waits_under hash x.seq) (parked_of x.conn queues)

-- each connection once, at its first place
abbrev pub once : List ConnId → List ConnId
once [] = []
once (c ∷ conns) = c ∷ filter (λ d. not (same_conn c d)) (once conns)

-- something that is parked waits for the hash
abbrev pub is_waited : Hash → List QueueView → Bool
is_waited hash queues = list_any (λ q. list_any (waits_for hash) q.parked) queues
