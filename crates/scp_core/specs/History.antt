-- What a list of events and their replies says.
use Rattle.std.specs.Prelude.{ℕ, ◌+◌, Bool, true, false, List, [], ◌∷◌, ◌++◌, nat_eq, if◌then◌else◌, fold, take, drop, slice_index_or}
use Rattle.scp_theorem.specs.scp_types.specs.declared.names.NodeId.{NodeId}
use Rattle.scp_theorem.specs.scp_wire.specs.declared.link.LinkItem.{LinkItem}
use Rattle.scp_theorem.specs.scp_wire.specs.declared.link.LinkItem.TheVariants as item
use Rattle.scp_theorem.specs.scp_wire.specs.declared.link.Inbound.{Inbound}
use Rattle.scp_theorem.specs.scp_wire.specs.declared.link.Inbound.TheVariants as inbound
use Rattle.scp_theorem.specs.scp_wire.specs.LinkReading.{unread, readings}
use Rattle.scp_theorem.specs.scp_wire.specs.Connections.{conn_at}
use Rattle.scp_theorem.specs.scp_wire.specs.Shape.{Tail, never_open, goes}
use Rattle.scp_core.specs.declared.config.Config.{Config}
use Rattle.scp_core.specs.declared.event.Event.{Event}
use Rattle.scp_core.specs.declared.event.Event.TheVariants.{Open, Send, Close, Local, ReaderTake, ReaderPut, PendPut, SlotTake, SlotPut, ApplyTake}
use Rattle.scp_core.specs.declared.event.Reply.{Reply}
use Rattle.scp_core.specs.declared.event.Reply.TheVariants.{Accepted, Moved, JournalFull, NoMemory}

-- an event and its reply
abbrev pub Exchange : Type 0
Exchange = Event × Reply

-- what the exchanges say of one link
pub record OnLink : Type 0 where
  pub items : List LinkItem  -- what was accepted at its tail, each stamped with its life
  pub taken : ℕ  -- Moved replies of ReaderTake
  pub given : ℕ  -- Moved replies of ReaderPut

-- a link on which nothing was accepted, and of which nothing was read
abbrev pub unused : OnLink
unused = record { items = []; taken = 0; given = 0 }

-- how often the link was opened, and whether it is open
abbrev pub tail_of : OnLink → Tail
tail_of o = fold goes never_open o.items

-- what all items of the link are read as
abbrev pub readings_of : OnLink → List Inbound
readings_of o = readings unread o.items

-- what the items that its reader took are read as, in order
abbrev pub read_so_far : OnLink → List Inbound
read_so_far o = readings unread (take o.taken o.items)

-- What exchanges say together: whether a step failed the node, what each link got, what came to the inbox, and how many things were put into
-- the other queues and taken from them.
pub record Past : Type 0 where
  pub failed : Bool  -- a step answered NoMemory or JournalFull
  pub links : ℕ → OnLink
  pub came : List Inbound  -- what was put into the inbox: the readings of all links, and the local commands
  pub ready_put : ℕ
  pub ready_taken : ℕ
  pub decided_put : ℕ
  pub decided_taken : ℕ

-- the past of a node as it is made
abbrev pub nothing_heard : Past
nothing_heard = record { failed = false; links = λ l. unused; came = []; ready_put = 0; ready_taken = 0; decided_put = 0; decided_taken = 0 }

-- one link's part is changed
abbrev pub changed : (ℕ → OnLink) → ℕ → OnLink → ℕ → OnLink
changed links l o m = if nat_eq m l then o else links m

-- an item is added after those of its link
abbrev pub goes_in : Past → ℕ → LinkItem → Past
goes_in p l x = record p { links = changed p.links l (record (p.links l) { items = (p.links l).items ++ x ∷ [] }) }

-- the node that link l comes from
abbrev pub peer_at : Config → ℕ → NodeId
peer_at c l = slice_index_or c.peers l c.me

-- what an accepted event adds: its item to its link, with the link's life, or its command to what came
abbrev pub accepts : Config → Past → Event → Past
accepts c p (Open l) = goes_in p l (item.Opened (conn_at (peer_at c l) c.me ((tail_of (p.links l)).life + 1)))
accepts c p (Send l bytes) = goes_in p l (item.Bytes (conn_at (peer_at c l) c.me (tail_of (p.links l)).life) bytes)
accepts c p (Close l) = goes_in p l (item.Closed (conn_at (peer_at c l) c.me (tail_of (p.links l)).life))
accepts c p (Local command) = record p { came = p.came ++ inbound.Local command ∷ [] }
accepts c p event = p

-- what an event that moved adds; the j-th Moved of ReaderPut(l) brings the j-th reading of link l
abbrev pub moves : Past → Event → Past
moves p (ReaderTake l) = record p { links = changed p.links l (record (p.links l) { taken = (p.links l).taken + 1 }) }
moves p (ReaderPut l) = record p { links = changed p.links l (record (p.links l) { given = (p.links l).given + 1 }); came = p.came ++ take 1 (drop (p.links l).given (readings_of (p.links l))) }
moves p PendPut = record p { ready_put = p.ready_put + 1 }
moves p SlotTake = record p { ready_taken = p.ready_taken + 1 }
moves p SlotPut = record p { decided_put = p.decided_put + 1 }
moves p ApplyTake = record p { decided_taken = p.decided_taken + 1 }
moves p event = p

-- what one event with its reply adds to the past; a reply that refuses adds nothing
abbrev pub hears : Config → Past → Event → Reply → Past
hears c p event Accepted = accepts c p event
hears c p event Moved = moves p event
hears c p event JournalFull = record p { failed = true }
hears c p event NoMemory = record p { failed = true }
hears c p event reply = p

-- what the exchanges say together, at a node of this configuration
abbrev pub past_of : Config → List Exchange → Past
past_of c past = fold (λ p x. hears c p x.0 x.1) nothing_heard past
