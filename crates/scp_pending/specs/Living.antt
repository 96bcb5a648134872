-- When a connection is open in what is parked, by what was taken of it and how it ended.
use Rattle.std.specs.Prelude.{ℕ, ◌≡◌, Bool, true, false, not, ◌&&◌, List, ◌++◌, Some, slice_get, nat_eq, fold}
use Rattle.std.specs.List.{list_any}
use Rattle.scp_wire.specs.scp_types.specs.declared.names.ConnId.{ConnId}
use Rattle.scp_wire.specs.scp_types.specs.declared.names.NodeId.{NodeId}
use Rattle.scp_wire.specs.scp_quorum.specs.QuorumTree.{QuorumTree}
use Rattle.scp_wire.specs.scp_quorum.specs.Sane.{IsSane}
use Rattle.scp_wire.specs.declared.link.Cause.{Cause}
use Rattle.scp_wire.specs.declared.link.Cause.TheVariants.{Malformed, Spent, Link, ParkedFull}
use Rattle.scp_wire.specs.declared.link.Inbound.{Inbound}
use Rattle.scp_wire.specs.Connections.{conn_at, same_conn}
use Rattle.scp_wire.specs.Shape.{Come, nothing_came, comes, of_peer, HasShape}
use Rattle.scp_pending.specs.declared.ready.Ready.{Ready}
use Rattle.scp_pending.specs.declared.ready.Ready.TheVariants.{Deliver, Dropped, Closed, Local}
use Rattle.scp_pending.specs.Queues.{is_open}
use Rattle.scp_pending.specs.Rules.{PendingView, fresh, settled_by, released_by}
use Rattle.scp_pending.specs.Pends.{Pends}

-- the last life that came of the link is this one, and it is open
abbrev pub stands : ℕ → Come → Bool
stands life came = came.is_open && nat_eq came.life life

-- whether a connection ended with this cause because one message too many came; that end comes right after the 65 that were dropped
abbrev pub is_too_many : Cause → Bool
is_too_many Malformed = false
is_too_many Spent = false
is_too_many Link = false
is_too_many ParkedFull = true

-- it is the end of the connection because one message too many came
abbrev pub cuts_off : ConnId → Ready → Bool
cuts_off c (Deliver delivery) = false
cuts_off c (Dropped conn seq cause) = false
cuts_off c (Closed conn cause) = same_conn conn c && is_too_many cause
cuts_off c (Local command) = false

-- one of these is that end of the connection
abbrev pub is_cut_off : ConnId → List Ready → Bool
is_cut_off c readies = list_any (cuts_off c) readies

-- A connection is open in what is parked, so that its items are live, exactly if three things hold: it was opened in
-- what was taken, not closed there, and not cut off in what was given or is on its way.
abbrev pub OpenByPlace : Type 0
OpenByPlace = (me : NodeId) (peers : List NodeId) (taken : List Inbound) (given : List Ready) (v : PendingView) → Pends me peers taken given v → HasShape me peers taken → (link : ℕ) (peer : NodeId) → slice_get peers link ≡ Some peer → (life : ℕ) → is_open (conn_at peer me life) v.settled.queues ≡ (stands life (fold comes nothing_came (of_peer peer taken)) && not (is_cut_off (conn_at peer me life) (given ++ v.leaving)))

-- The same at each place of what was taken. The connection is open, so that its next item is live, exactly if what came
-- before opened it and didn't close it, and what had left didn't cut it off.
abbrev pub OpenAtEachPlace : Type 0
OpenAtEachPlace = (me : NodeId) (peers : List NodeId) (local : QuorumTree) (before rest : List Inbound) → IsSane local → HasShape me peers (before ++ rest) → (link : ℕ) (peer : NodeId) → slice_get peers link ≡ Some peer → (life : ℕ) → is_open (conn_at peer me life) (settled_by (fresh me peers local) before).queues ≡ (stands life (fold comes nothing_came (of_peer peer before)) && not (is_cut_off (conn_at peer me life) (released_by (fresh me peers local) before)))
