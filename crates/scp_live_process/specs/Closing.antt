-- How a node closes at its start the connections that were open (this project's profile).
use Rattle.std.specs.Prelude.{ℕ, zero, suc, ◌≡◌, ◌<◌, ◌+◌, ◌⊎◌, Bool, true, false, List, [], ◌∷◌, ◌++◌, Option, Some, None, map, take, drop, codes, slice_get, if◌then◌else◌}
use Rattle.scp_stand_node.specs.scp_core.specs.History.{Exchange}
use Rattle.scp_stand_node.specs.scp_core.specs.Node.{LinkView, accepts_at, room_at}
use Rattle.scp_stand_node.specs.scp_core.specs.Kv.{NodeView}
use Rattle.scp_stand_node.specs.scp_turn.specs.Turn.{links_of}
use Rattle.scp_batches.specs.scp_live_log.specs.Log.{EntryView}
use Rattle.scp_live.specs.scp_live_lines.specs.Names.{name_at}
use Rattle.scp_live.specs.Live.{LiveView}
use Rattle.scp_live.specs.Replays.{AreReplayed, SaysNoEvent}

-- The link is there, and a connection is open on it.
abbrev pub is_open_in : Option LinkView → Bool
is_open_in None = false
is_open_in (Some k) = k.is_open

-- A connection is open on the link with this number.
abbrev pub is_open_at : NodeView → ℕ → Bool
is_open_at v l = is_open_in (slice_get v.links l)

-- Of so many links, those that are open and have room, in order.
abbrev pub open_links : NodeView → ℕ → List ℕ
open_links v zero = []
open_links v (suc l) = open_links v l ++ (if accepts_at v l then l ∷ [] else [])

-- The line of a host that closes the connection of a link.
abbrev pub close_line : List (List ℕ) → ℕ → List ℕ
close_line names l = codes "close " ++ name_at names l

-- Each link that was open and had room is closed by an event of its own, in the order of the links: the one that its `close` line says.
-- Nothing else happens, and then no link is open.
pub record AreClosed (closes : List EntryView) (old : LiveView) (heard : List Exchange) (new : LiveView) : Type 0 where
  pub lines : map (λ (entry : EntryView). entry.line) closes ≡ map (close_line old.names) (open_links old.node (links_of old.node))
  pub replayed : AreReplayed closes old heard new
  pub closed : (l : ℕ) → l < links_of new.node → is_open_at new.node l ≡ false

-- A link may be open: it takes messages, or it has no room for one.
abbrev pub MayBeOpen : NodeView → Type 0
MayBeOpen v = (l : ℕ) × (l < links_of v) × ((accepts_at v l ≡ true) ⊎ (room_at v l ≡ 0))

-- The line can't be the line of an event: it has a line end, or it says no event.
abbrev pub IsNoEventLine : List (List ℕ) → List ℕ → Type 0
IsNoEventLine names line = ((n : ℕ) × (line ≡ take n line ++ 10 ∷ drop (n + 1) line)) ⊎ SaysNoEvent names line

-- The `close` line of one of these links can't be the line of an event.
pub record HasNoCloseLine (names : List (List ℕ)) (links : List ℕ) : Type 0 where
  pub front : List ℕ
  pub link : ℕ
  pub rest : List ℕ
  pub among : links ≡ front ++ link ∷ rest
  pub none : IsNoEventLine names (close_line names link)
