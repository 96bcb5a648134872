-- The shape of what travels over a link, before it is read and after.
use Rattle.std.specs.Prelude.{ℕ, ◌+◌, ◌≡◌, ◌≢◌, Bool, true, false, List, [], ◌∷◌, filter, Some, slice_get}
use Rattle.scp_quorum.specs.scp_types.specs.declared.names.NodeId.{NodeId}
use Rattle.scp_wire.specs.declared.link.LinkItem.{LinkItem}
use Rattle.scp_wire.specs.declared.link.LinkItem.TheVariants as item
use Rattle.scp_wire.specs.declared.link.Inbound.{Inbound}
use Rattle.scp_wire.specs.declared.link.Inbound.TheVariants.{Opened, Carried, Side, Closed, Local}
use Rattle.scp_wire.specs.declared.link.Cause.TheVariants.{ParkedFull}
use Rattle.scp_wire.specs.Connections.{conn_at, same_node}

-- ---- at the link's tail

-- how often the link was opened, and whether it is open
pub record Tail : Type 0 where
  pub life : ℕ
  pub is_open : Bool

-- the tail of a link that was never opened
abbrev pub never_open : Tail
never_open = record { life = 0; is_open = false }

-- the tail after an item
abbrev pub goes : Tail → LinkItem → Tail
goes t (item.Opened conn) = record { life = t.life + 1; is_open = true }
goes t (item.Bytes conn bytes) = t
goes t (item.Closed conn) = record { life = t.life; is_open = false }

-- the item may go next: it opens the next life if none is open, or it belongs to the open life
abbrev pub MayGo : NodeId → NodeId → Tail → LinkItem → Type 0
MayGo peer me t (item.Opened conn) = (t.is_open ≡ false) × (conn ≡ conn_at peer me (t.life + 1))
MayGo peer me t (item.Bytes conn bytes) = (t.is_open ≡ true) × (conn ≡ conn_at peer me t.life)
MayGo peer me t (item.Closed conn) = (t.is_open ≡ true) × (conn ≡ conn_at peer me t.life)

-- what a link may carry: each item may go next after those before it
abbrev pub AreOfLink : NodeId → NodeId → Tail → List LinkItem → Type 0
AreOfLink peer me t [] = Unit {0}
AreOfLink peer me t (x ∷ xs) = MayGo peer me t x × AreOfLink peer me (goes t x) xs

-- ---- after the reader

-- the last life, whether it is open, and the next number
pub record Come : Type 0 where
  pub life : ℕ
  pub is_open : Bool
  pub next : ℕ

-- nothing has come of the link yet
abbrev pub nothing_came : Come
nothing_came = record { life = 0; is_open = false; next = 0 }

-- how the link is after an item
abbrev pub comes : Come → Inbound → Come
comes h (Opened conn) = record { life = h.life + 1; is_open = true; next = 0 }
comes h (Carried carried) = record h { next = h.next + 1 }
comes h (Side conn message) = h
comes h (Closed conn cause) = record h { is_open = false }
comes h (Local command) = h

-- the item may come next: lives 1, 2, .., numbers 0, 1, 2, .., nothing between Closed and Opened, and never the end
-- ParkedFull, which no reader gives
abbrev pub MayCome : NodeId → NodeId → Come → Inbound → Type 0
MayCome peer me h (Opened conn) = (h.is_open ≡ false) × (conn ≡ conn_at peer me (h.life + 1))
MayCome peer me h (Carried carried) = (h.is_open ≡ true) × (carried.conn ≡ conn_at peer me h.life) × (carried.seq.0 ≡ h.next)
MayCome peer me h (Side conn message) = (h.is_open ≡ true) × (conn ≡ conn_at peer me h.life)
MayCome peer me h (Closed conn cause) = (h.is_open ≡ true) × (conn ≡ conn_at peer me h.life) × (cause ≢ ParkedFull)
MayCome peer me h (Local command) = ⊥

-- what comes from one peer is in order: each thing may come next after those before it
abbrev pub AreInOrder : NodeId → NodeId → Come → List Inbound → Type 0
AreInOrder peer me h [] = Unit {0}
AreInOrder peer me h (x ∷ xs) = MayCome peer me h x × AreInOrder peer me (comes h x) xs

-- whether the thing comes from the node
abbrev pub is_from : NodeId → Inbound → Bool
is_from peer (Opened conn) = same_node conn.from peer
is_from peer (Carried carried) = same_node carried.conn.from peer
is_from peer (Side conn message) = same_node conn.from peer
is_from peer (Closed conn cause) = same_node conn.from peer
is_from peer (Local command) = false

-- what came from the peer
abbrev pub of_peer : NodeId → List Inbound → List Inbound
of_peer peer items = filter (is_from peer) items

-- what came from each peer's link has the shape that its reader gives it
abbrev pub HasShape : NodeId → List NodeId → List Inbound → Type 0
HasShape me peers items = (link : ℕ) → (peer : NodeId) → slice_get peers link ≡ Some peer → AreInOrder peer me nothing_came (of_peer peer items)
