-- What is done with a node while it runs: commands to it, and acts on its links.
use Rattle.std.specs.Prelude.{◌≡◌, ℕ, [], ◌∷◌, ◌++◌, Option, None, Some, slice_get, slice_set, nat_eq, if◌then◌else◌}
use Rattle.scp_gather.specs.scp_types.specs.declared.limits.TheConstants.{LIFE_LIMIT}
use Rattle.scp_gather.specs.scp_types.specs.declared.fault.Fault.{Fault}
use Rattle.scp_gather.specs.scp_types.specs.declared.fault.Fault.TheVariants.{AlreadyOpen, LivesSpent, NotOpen, Refused}
use Rattle.scp_gather.specs.scp_types.specs.declared.fault.Stage.TheVariants.{Reader}
use Rattle.scp_gather.specs.scp_wire.specs.Shape.{Tail as Standing}
use Rattle.scp_gather.specs.scp_wire.specs.declared.link.Inbound.{Inbound}
use Rattle.scp_gather.specs.scp_wire.specs.declared.link.LinkItem.TheVariants as item
use Rattle.scp_gather.specs.scp_ends.specs.Links.{LinkEnd, stands, conn_now, conn_next, with_item}
use Rattle.scp_threaded_node.specs.declared.acting.Act.{Act}
use Rattle.scp_threaded_node.specs.declared.acting.Act.TheVariants.{Open, Close, Send}
use Rattle.scp_threaded_node.specs.declared.node.Node.{Node}
use Rattle.scp_threaded_node.specs.declared.node.Running.{Running}
use Rattle.scp_threaded_node.specs.declared.node.Tail.{Tail}
use Rattle.scp_threaded_node.specs.declared.node.Tail.TheVariants.{Host, Courier}

module _ {A S : Type 0} where
  -- the command was sent to the node
  abbrev pub with_command : Node A S → Inbound → Node A S
  with_command node x = record node { local = record node.local { sent = node.local.sent ++ x ∷ [] } }

-- What an act of the host puts on a link: its next connection begins, bytes go over the open connection, or that connection ends.
abbrev pub act_on : Act → LinkEnd → LinkEnd
act_on Open k = with_item k (item.Opened (conn_next k))
act_on Close k = with_item k (item.Closed (conn_now k))
act_on (Send bytes) k = with_item k (item.Bytes (conn_now k) bytes)

-- the act is done if the host sends on the link; on a courier's link nothing changes
abbrev pub acted : Act → Tail → Tail
acted act (Host k) = Host (act_on act k)
acted act (Courier thread) = Courier thread

module _ {A S : Type 0} where
  -- nothing changed but the node's links
  abbrev pub IsSameNode : Node A S → Node A S → Type 0
  IsSameNode x y = y ≡ record x { lanes = y.lanes }

  -- the act was done on the link at this place, and nothing else changed
  pub record ActsAt (act : Act) (place : ℕ) (x y : Node A S) : Type 0 where
    pub same : IsSameNode x y
    pub lane : Running
    pub was : slice_get x.lanes.items place ≡ Some lane
    pub is : y.lanes.items ≡ slice_set x.lanes.items place (record lane { tail = acted act lane.tail })

  -- nothing was done
  pub record IsUnchanged (x y : Node A S) : Type 0 where
    pub same : IsSameNode x y
    pub lanes : y.lanes.items ≡ x.lanes.items

-- ---- why an act wasn't done

-- an open link can't be opened, nor can a link that was opened as often as the limit allows
abbrev pub cannot_open : Standing → Option Fault
cannot_open t = if t.is_open then Some AlreadyOpen else (if nat_eq t.life LIFE_LIMIT then Some LivesSpent else None)

-- nothing can be sent over a link that isn't open, and it can't be closed
abbrev pub cannot_send : Standing → Option Fault
cannot_send t = if t.is_open then None else Some NotOpen

-- why the link can't do this act, if it can't
abbrev pub cannot : Act → LinkEnd → Option Fault
cannot Open k = cannot_open (stands k)
cannot Close k = cannot_send (stands k)
cannot (Send bytes) k = cannot_send (stands k)

-- the fault is the reason why the link can't do it; if the link can, its reader is gone
abbrev pub IsRefusedFor : Option Fault → Fault → Type 0
IsRefusedFor None fault = fault ≡ Refused Reader
IsRefusedFor (Some why) fault = fault ≡ why

-- The fault of an act on a link, if the host sends on it. On a courier's link nothing is refused.
abbrev pub IsActFault : Act → Tail → Fault → Type 0
IsActFault act (Host k) fault = IsRefusedFor (cannot act k) fault
IsActFault act (Courier thread) fault = ⊥

-- the link can do this act, or a courier sends on it
abbrev pub CanAct : Act → Tail → Type 0
CanAct act (Host k) = cannot act k ≡ None
CanAct act (Courier thread) = Unit {0}
