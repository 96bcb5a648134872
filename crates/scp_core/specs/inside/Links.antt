-- What one event does to one link; nothing here need be believed.
use Rattle.std.specs.Prelude.{ℕ, ◌+◌, ◌<◌, ◌≡◌, ◌≢◌, ◌⊎◌, Bool, true, false, List, [], ◌∷◌, ◌++◌, Some, None, length, slice_get, slice_set, Result, Ok, Err}
use Rattle.scp_theorem.specs.scp_types.specs.declared.names.NodeId.{NodeId}
use Rattle.scp_theorem.specs.scp_wire.specs.declared.link.LinkItem.{LinkItem}
use Rattle.scp_theorem.specs.scp_wire.specs.declared.link.LinkItem.TheVariants as item
use Rattle.scp_theorem.specs.scp_wire.specs.declared.link.Inbound.{Inbound}
use Rattle.scp_theorem.specs.scp_wire.specs.LinkReading.{reading, after}
use Rattle.scp_theorem.specs.scp_wire.specs.Connections.{conn_at}
use Rattle.scp_core.specs.declared.event.Reply.{Reply}
use Rattle.scp_core.specs.declared.event.Reply.TheVariants.{AlreadyOpen, LivesSpent, NotOpen, Full, Accepted, Blocked, Idle, Moved, NoLink, NoMemory}
use Rattle.scp_core.specs.Node.{LinkView, is_full, room_in}

abbrev pub Opens : NodeId → NodeId → LinkView → Reply → LinkView → Type 0
Opens peer me k AlreadyOpen k2 = (k.is_open ≡ true) × (k2 ≡ k)
Opens peer me k LivesSpent k2 = (k.is_open ≡ false) × (k.life ≡ 65535) × (k2 ≡ k)
Opens peer me k Full k2 = (k.is_open ≡ false) × (k.life < 65535) × is_full k × (k2 ≡ k)
Opens peer me k Accepted k2 = (k.is_open ≡ false) × (k.life < 65535) × (length k.queue ≢ k.room) × (k2 ≡ record k { life = k.life + 1; is_open = true; queue = k.queue ++ item.Opened (conn_at peer me (k.life + 1)) ∷ [] })
Opens peer me k reply k2 = ⊥

abbrev pub Sends : NodeId → NodeId → List ℕ → LinkView → Reply → LinkView → Type 0
Sends peer me bytes k NotOpen k2 = (k.is_open ≡ false) × (k2 ≡ k)
Sends peer me bytes k Full k2 = (k.is_open ≡ true) × is_full k × (k2 ≡ k)
Sends peer me bytes k Accepted k2 = (k.is_open ≡ true) × (length k.queue ≢ k.room) × (k2 ≡ record k { queue = k.queue ++ item.Bytes (conn_at peer me k.life) bytes ∷ [] })
Sends peer me bytes k reply k2 = ⊥

abbrev pub Closes : NodeId → NodeId → LinkView → Reply → LinkView → Type 0
Closes peer me k NotOpen k2 = (k.is_open ≡ false) × (k2 ≡ k)
Closes peer me k Full k2 = (k.is_open ≡ true) × is_full k × (k2 ≡ k)
Closes peer me k Accepted k2 = (k.is_open ≡ true) × (length k.queue ≢ k.room) × (k2 ≡ record k { is_open = false; queue = k.queue ++ item.Closed (conn_at peer me k.life) ∷ [] })
Closes peer me k reply k2 = ⊥

abbrev pub Reads : LinkView → Reply → LinkView → Type 0
Reads k Blocked k2 = (k.hand ≢ []) × (k2 ≡ k)
Reads k Idle k2 = (k.hand ≡ []) × (k.queue ≡ []) × (k2 ≡ k)
Reads k Moved k2 = (k.hand ≡ []) × (x : LinkItem) × (rest : List LinkItem) × (k.queue ≡ x ∷ rest) × (k2 ≡ record k { queue = rest; reader = after k.reader x; hand = reading k.reader x })
Reads k NoMemory k2 = (k.hand ≡ []) × (k.queue ≢ []) × (k2.life ≡ k.life) × (room_in k2 ≡ room_in k + 1)
Reads k reply k2 = ⊥

-- this happened to the link, if it is there; otherwise the reply is NoLink
abbrev pub OnLinks : (LinkView → Reply → LinkView → Type 0) → List LinkView → ℕ → Reply → List LinkView → Type 0
OnLinks does old l reply new = ((slice_get old l ≡ None) × (reply ≡ NoLink) × (new ≡ old)) ⊎ ((k : LinkView) × (k2 : LinkView) × (slice_get old l ≡ Some k) × does k reply k2 × (new ≡ slice_set old l k2))

-- the first thing in the hand goes out if there is room for it
abbrev pub Gives : LinkView → Bool → Result Inbound Reply → LinkView → Type 0
Gives k full (Err Idle) k2 = (k.hand ≡ []) × (k2 ≡ k)
Gives k full (Err Blocked) k2 = (k.hand ≢ []) × (full ≡ true) × (k2 ≡ k)
Gives k full (Ok x) k2 = (full ≡ false) × (xs : List Inbound) × (k.hand ≡ x ∷ xs) × (k2 ≡ record k { hand = xs })
Gives k full (Err reply) k2 = ⊥

abbrev pub Puts : List LinkView → ℕ → Bool → Result Inbound Reply → List LinkView → Type 0
Puts old l full result new = ((slice_get old l ≡ None) × (result ≡ Err NoLink) × (new ≡ old)) ⊎ ((k : LinkView) × (k2 : LinkView) × (slice_get old l ≡ Some k) × Gives k full result k2 × (new ≡ slice_set old l k2))
