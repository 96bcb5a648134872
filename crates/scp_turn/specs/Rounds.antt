-- How nodes come to rest: by rounds, in which each node's stages do one step each, and then the next message of each of its outboxes goes out.
use Rattle.std.specs.Prelude.{ℕ, ◌+◌, ◌-◌, ◌*◌, ◌<◌, ◌≤◌, ◌≡◌, ◌≢◌, ◌⊎◌, Bool, true, false, List, [], ◌∷◌, Option, Some, None, get_or, slice_get}
use Rattle.std.specs.List.{AllByRecursion}
use Rattle.scp_core.specs.scp_types.specs.declared.limits.TheConstants.{NETWORK_LIMIT, ROUND_LIMIT}
use Rattle.scp_core.specs.scp_wire.specs.declared.link.Bytes.{Bytes}
pub use Rattle.scp_core.specs.scp_wire.specs.Places.{link_of}
use Rattle.scp_core.specs.declared.event.Event.{Event}
use Rattle.scp_core.specs.declared.event.Event.TheVariants as event
use Rattle.scp_core.specs.declared.event.Reply.{Reply}
use Rattle.scp_core.specs.declared.event.Reply.TheVariants as reply
use Rattle.scp_core.specs.Node.{accepts_at}
use Rattle.scp_core.specs.Kv.{NodeView}
use Rattle.scp_turn.specs.Turn.{IsStillReply, stage_events}
use Rattle.scp_turn.specs.Heard.{Nodes, Heard, Then, IsNothing, IsOne, InOrder}

-- nothing moved, and nothing was sent
abbrev pub IsStill : List Heard → Type 0
IsStill heard = AllByRecursion (λ h. IsStillReply h.reply) heard

-- this event was heard by the node of this number, whatever it replied
abbrev pub Hears : ℕ → Event → Nodes → List Heard → Nodes → Type 0
Hears number event old heard new = (reply : Reply) × IsOne (record { node = number; event = event; reply = reply }) old heard new

-- the node of this number heard these events, one after the other
abbrev pub HearsAll : ℕ → List Event → Nodes → List Heard → Nodes → Type 0
HearsAll number [] = IsNothing
HearsAll number (event ∷ events) = Then (Hears number event) (HearsAll number events)

-- the place of the link from one node to another in a list of 101 for each node
abbrev pub place_of : ℕ → ℕ → ℕ
place_of from to = (from - 1) * NETWORK_LIMIT + (to - 1)

-- whether only the caller sends on the link from one node to another
abbrev pub is_driven : List Bool → ℕ → ℕ → Bool
is_driven driven from to = get_or driven (place_of from to) false

-- the node isn't there, or accepts nothing on its link
abbrev pub AcceptsNothing : Option NodeView → ℕ → Type 0
AcceptsNothing None link = Unit {0}
AcceptsNothing (Some node) link = accepts_at node link ≡ false

-- nothing goes over a link: it is from a node to itself, only the caller sends on it, it isn't
-- open, its queue is full, or the receiver failed or isn't there
abbrev pub IsShut : List Bool → ℕ → ℕ → Nodes → Type 0
IsShut driven from to nodes = (from ≡ to) ⊎ ((is_driven driven from to ≡ true) ⊎ AcceptsNothing (slice_get nodes (to - 1)) (link_of from to))

-- the sender's link to the receiver was drained
abbrev pub drain_of : ℕ → ℕ → Reply → Heard
drain_of from to reply = record { node = from; event = event.Drain (link_of to from); reply = reply }

-- these bytes were sent to the receiver over the sender's link, and accepted
abbrev pub send_of : ℕ → ℕ → Bytes → Heard
send_of from to bytes = record { node = to; event = event.Send (link_of from to) bytes; reply = reply.Accepted }

-- nothing was drained: nothing was next in the outbox, or the sender failed
abbrev pub IsDry : ℕ → ℕ → Nodes → List Heard → Nodes → Type 0
IsDry from to old heard new = (reply : Reply) × IsStillReply reply × IsOne (drain_of from to reply) old heard new

-- what was next in the sender's outbox was sent, and accepted
abbrev pub IsSent : ℕ → ℕ → Nodes → List Heard → Nodes → Type 0
IsSent from to old heard new = (bytes : Bytes) × Then (IsOne (drain_of from to (reply.Sent bytes))) (IsOne (send_of from to bytes)) old heard new

-- what goes over the link from one node to another in a turn
abbrev pub Carries : List Bool → ℕ → ℕ → Nodes → List Heard → Nodes → Type 0
Carries driven from to old heard new = (IsShut driven from to old × IsNothing old heard new) ⊎ ((from ≢ to) × (is_driven driven from to ≡ false) × (IsDry from to old heard new ⊎ IsSent from to old heard new))

-- a node's turn: its stages do one step each, and then what is next goes out over each of its links
abbrev pub IsTurn : List Bool → ℕ → ℕ → Nodes → List Heard → Nodes → Type 0
IsTurn driven count number = Then (HearsAll number (stage_events (count - 1))) (InOrder (Carries driven number) count)

-- a round: each node's turn, in the order of their numbers
abbrev pub IsRound : List Bool → ℕ → Nodes → List Heard → Nodes → Type 0
IsRound driven count = InOrder (IsTurn driven count) count

-- a round in which something moved or was sent
abbrev pub IsMovingRound : List Bool → ℕ → Nodes → List Heard → Nodes → Type 0
IsMovingRound driven count old heard new = IsRound driven count old heard new × (¬ (IsStill heard))

-- this many rounds, one after another, in each of which something moved or was sent
abbrev pub AreRounds : List Bool → ℕ → ℕ → Nodes → List Heard → Nodes → Type 0
AreRounds driven count rounds = InOrder (λ round. IsMovingRound driven count) rounds

-- a round in which nothing moved and nothing was sent
abbrev pub IsStillRound : List Bool → ℕ → Nodes → List Heard → Nodes → Type 0
IsStillRound driven count old heard new = IsRound driven count old heard new × IsStill heard

-- the nodes come to rest: fewer than 100,000 rounds that moved or sent something, and then a still
-- one; or they don't: 100,000 rounds that moved or sent something
abbrev pub RestsAs : List Bool → ℕ → Bool → Nodes → List Heard → Nodes → Type 0
RestsAs driven count true old heard new = (before : ℕ) × (before < ROUND_LIMIT) × Then (AreRounds driven count before) (IsStillRound driven count) old heard new
RestsAs driven count false old heard new = AreRounds driven count ROUND_LIMIT old heard new

-- rounds until a still one, at most 100,000
abbrev pub Rests : List Bool → ℕ → Nodes → List Heard → Nodes → Type 0
Rests driven count old heard new = (calm : Bool) × RestsAs driven count calm old heard new

-- no node failed
abbrev pub AllRun : Nodes → Type 0
AllRun nodes = (i : ℕ) → (node : NodeView) → slice_get nodes i ≡ Some node → node.failed ≡ false

-- the nodes before this place run
abbrev pub RunBefore : Nodes → ℕ → Type 0
RunBefore nodes place = (i : ℕ) → (node : NodeView) → i < place → slice_get nodes i ≡ Some node → node.failed ≡ false

-- the node of this number failed, and no node with a lower number did
abbrev pub HasFailed : Nodes → ℕ → Type 0
HasFailed nodes number = (node : NodeView) × (1 ≤ number) × (slice_get nodes (number - 1) ≡ Some node) × (node.failed ≡ true) × RunBefore nodes (number - 1)

-- this many rounds; after the last of them, if there was one, no node had failed
abbrev pub AreWellRounds : List Bool → ℕ → ℕ → Nodes → List Heard → Nodes → Type 0
AreWellRounds driven count rounds old heard new = AreRounds driven count rounds old heard new × ((rounds ≡ 0) ⊎ AllRun new)

-- the node of this number had failed by the end of a round, at most the 100,000th, and no node had after the round before
abbrev pub Breaks : List Bool → ℕ → ℕ → Nodes → List Heard → Nodes → Type 0
Breaks driven count number old heard new = (before : ℕ) × (before < ROUND_LIMIT) × Then (AreWellRounds driven count before) (IsRound driven count) old heard new × HasFailed new number
