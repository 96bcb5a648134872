-- The peers of a node, by the places of their links.
use Rattle.std.specs.Prelude.{ℕ, ◌≡◌, List, Some, slice_get}
use Rattle.scp_wire.specs.scp_types.specs.declared.names.NodeId.{NodeId}

-- no peer is there twice
abbrev pub AreApart : List NodeId → Type 0
AreApart peers = (l m : ℕ) → (peer : NodeId) → slice_get peers l ≡ Some peer → slice_get peers m ≡ Some peer → l ≡ m
