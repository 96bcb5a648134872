-- What follows from the rules, for every list of takes.
use Rattle.std.specs.Prelude.{ℕ, ◌≡◌, ◌≤◌, ◌++◌, List, Some, slice_get, length, map, filter}
use Rattle.std.specs.List.{AllByRecursion}
use Rattle.scp_wire.specs.scp_types.specs.declared.names.ConnId.{ConnId}
use Rattle.scp_wire.specs.scp_types.specs.declared.names.Hash.{Hash}
use Rattle.scp_wire.specs.scp_types.specs.declared.names.NodeId.{NodeId}
use Rattle.scp_wire.specs.declared.link.Inbound.{Inbound}
use Rattle.scp_wire.specs.Connections.{conn_at}
use Rattle.scp_wire.specs.Shape.{HasShape}
use Rattle.scp_wire.specs.Lanes.{HaveSlots}
use Rattle.scp_pending.specs.declared.pending.TheConstants.{PARKED_LIMIT}
use Rattle.scp_pending.specs.declared.ready.Ready.{Ready}
use Rattle.scp_fetch.specs.Wants.{has_conn, is_wanted, waiting_for}
use Rattle.scp_pending.specs.Queues.{is_open, is_waiting, parked_of}
use Rattle.scp_pending.specs.Waiters.{carried_in, waits_here, once, is_waited}
use Rattle.scp_pending.specs.Rules.{PendingView}
use Rattle.scp_pending.specs.Line.{Accounts, held}
use Rattle.scp_pending.specs.Causes.{HasCause}
use Rattle.scp_pending.specs.Endings.{Exits, ways, commands_in, commands_of}
use Rattle.scp_pending.specs.Pends.{Pends, start_of}

-- each connection of a peer's link is accounted for
abbrev pub AllAccounts : Type 0
AllAccounts = (me : NodeId) (peers : List NodeId) (taken : List Inbound) (given : List Ready) (v : PendingView) → Pends me peers taken given v → HasShape me peers taken → (link : ℕ) (peer : NodeId) → slice_get peers link ≡ Some peer → (life : ℕ) → (slots : ℕ → ℕ) → HaveSlots (conn_at peer me life) slots taken → Accounts (conn_at peer me life) slots taken given (held (conn_at peer me life) v)

-- each connection of a peer's link is as `Exits` says: how its messages left, and how it ended
abbrev pub AllExits : Type 0
AllExits = (me : NodeId) (peers : List NodeId) (taken : List Inbound) (given : List Ready) (v : PendingView) → Pends me peers taken given v → HasShape me peers taken → (link : ℕ) (peer : NodeId) → slice_get peers link ≡ Some peer → (life : ℕ) → (slots : ℕ → ℕ) → HaveSlots (conn_at peer me life) slots taken → Exits (start_of me peers v) slots taken (conn_at peer me life) (is_open (conn_at peer me life) v.settled.queues) (ways (conn_at peer me life) (given ++ v.leaving))

-- all that was given, and all that is ready, has its cause
abbrev pub AllHaveCauses : Type 0
AllHaveCauses = (me : NodeId) (peers : List NodeId) (taken : List Inbound) (given : List Ready) (v : PendingView) → Pends me peers taken given v → AllByRecursion (HasCause (start_of me peers v) taken) (given ++ v.leaving)

-- of each connection at most 64 messages are parked
abbrev pub FewAreParked : Type 0
FewAreParked = (me : NodeId) (peers : List NodeId) (taken : List Inbound) (given : List Ready) (v : PendingView) → Pends me peers taken given v → (c : ConnId) → length (parked_of c v.settled.queues) ≤ PARKED_LIMIT

-- the connections in a hash's list are those of which a parked message waits for it
abbrev pub WaitersWait : Type 0
WaitersWait = (me : NodeId) (peers : List NodeId) (taken : List Inbound) (given : List Ready) (v : PendingView) → Pends me peers taken given v → (hash : Hash) (c : ConnId) → has_conn c (waiting_for hash v.settled.wanted) ≡ is_waiting c hash v.settled.queues

-- If the items of each link have their shape: the connections in a hash's list are those of the messages that were taken
-- and still wait for it, each by its first such message, in order.
abbrev pub WaitersInOrder : Type 0
WaitersInOrder = (me : NodeId) (peers : List NodeId) (taken : List Inbound) (given : List Ready) (v : PendingView) → Pends me peers taken given v → HasShape me peers taken → (hash : Hash) → waiting_for hash v.settled.wanted ≡ once (map (λ x. x.conn) (filter (waits_here hash v.settled.queues) (carried_in taken)))

-- a hash is wanted exactly while something that is parked waits for it
abbrev pub WantedWhileWaited : Type 0
WantedWhileWaited = (me : NodeId) (peers : List NodeId) (taken : List Inbound) (given : List Ready) (v : PendingView) → Pends me peers taken given v → (hash : Hash) → is_wanted hash v.settled.wanted ≡ is_waited hash v.settled.queues

-- each local command other than Tick is given once, in order, and nothing else is given as a command
abbrev pub CommandsPass : Type 0
CommandsPass = (me : NodeId) (peers : List NodeId) (taken : List Inbound) (given : List Ready) (v : PendingView) → Pends me peers taken given v → commands_of (given ++ v.leaving) ≡ commands_in taken
