-- The place of a node among the peers of another. Each of a few nodes, numbered from 1 on, is a peer of all others.
use Rattle.std.specs.Prelude.{◌≡◌, ◌≢◌, ℕ, ◌≤◌, List, Some, slice_get}
pub use Rattle.scp_outbox.specs.scp_wire.specs.Places.{link_of, peer_at}

-- P relates each element to its place
abbrev pub Each : {T : Type 0} → (ℕ → T → Type 0) → List T → Type 0
Each P xs = (i : ℕ) → (x : _) → slice_get xs i ≡ Some x → P i x

-- the node is one of this many
abbrev pub IsOneOf : ℕ → ℕ → Type 0
IsOneOf count node = (1 ≤ node) × (node ≤ count)

-- both are nodes of this many, and they aren't the same
abbrev pub AreTwoOf : ℕ → ℕ → ℕ → Type 0
AreTwoOf count from to = IsOneOf count from × IsOneOf count to × (from ≢ to)
