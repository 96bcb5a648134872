-- What holds of what the pending stage took, what it gave, and what it holds.
use Rattle.std.specs.Prelude.{◌≡◌, false, List, [], ◌++◌}
use Rattle.scp_wire.specs.scp_types.specs.declared.names.NodeId.{NodeId}
use Rattle.scp_wire.specs.scp_quorum.specs.Sane.{IsSane}
use Rattle.scp_wire.specs.declared.link.Inbound.{Inbound}
use Rattle.scp_pending.specs.declared.ready.Ready.{Ready}
use Rattle.scp_pending.specs.Rules.{PendingView, Settled, fresh, settled_by, released_by}
use Rattle.scp_pending.specs.Causes.{IsSettledBy}
use Rattle.scp_pending.specs.Passes.{Passes}

-- what is settled before anything is taken
abbrev pub start_of : NodeId → List NodeId → PendingView → Settled
start_of me peers v = fresh me peers v.settled.store.local

-- the stage is what the rules make of what it took, from a stage of this node and these peers that took nothing
pub record Pends (me : NodeId) (peers : List NodeId) (taken : List Inbound) (given : List Ready) (v : PendingView) : Type 0 where
  pub runs : v.failed ≡ false
  pub local_is_sane : IsSane v.settled.store.local
  pub settled : v.settled ≡ settled_by (start_of me peers v) taken
  pub left : given ++ v.leaving ≡ released_by (start_of me peers v) taken

-- a stage of this node and these peers is settled
abbrev pub IsSettled : NodeId → List NodeId → List Inbound → PendingView → Type 0
IsSettled me peers taken v = IsSettledBy (start_of me peers v) taken v

-- nothing is ready, and what is held waits as it should, whatever was taken
abbrev pub IsIdle : PendingView → Type 0
IsIdle v = (me : NodeId) → (peers : List NodeId) → (taken : List Inbound) → (given : List Ready) → Pends me peers taken given v → IsSettled me peers taken v

-- the same as `Pends`, for the node and the peers that the stage was made for
abbrev pub PendsHere : List Inbound → List Ready → PendingView → Type 0
PendsHere taken given v = Pends v.settled.me v.settled.peers taken given v

-- this holds of a stage that took nothing, which has nothing ready
abbrev pub HereFromNothing : Type 0
HereFromNothing = (me : NodeId) (peers : List NodeId) (v : PendingView) → Pends me peers [] [] v → PendsHere [] [] v × (v.leaving ≡ [])

-- and what passes for every node and peers passes for these
abbrev pub HerePasses : Type 0
HerePasses = (more : List Inbound) (out : List Ready) (old new : PendingView) → ((me : NodeId) → (peers : List NodeId) → Passes (Pends me peers) more out old new) → Passes PendsHere more out old new

-- a stage that has nothing ready is settled
abbrev pub RestIsSettled : Type 0
RestIsSettled = (me : NodeId) (peers : List NodeId) (taken : List Inbound) (given : List Ready) (v : PendingView) → v.leaving ≡ [] → Pends me peers taken given v → IsSettled me peers taken v
