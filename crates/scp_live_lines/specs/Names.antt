-- The names of peers (this project's profile).
use Rattle.std.specs.Prelude.{ℕ, List, Option, Some, None, codes, position, slice_index_or}
use Rattle.scp_core.specs.scp_types.specs.declared.names.NodeId.{NodeId}
use Rattle.scp_core.specs.scp_types.specs.Same.{same_node}

-- The name at this index, or a dash if there is none.
abbrev pub name_at : List (List ℕ) → ℕ → List ℕ
name_at names place = slice_index_or names place (codes "-")

-- The name at an index that was found, or a dash if none was found.
abbrev pub name_if : List (List ℕ) → Option ℕ → List ℕ
name_if names None = codes "-"
name_if names (Some place) = name_at names place

-- The name of the peer with this id: the name at the index where the id first occurs among the peers. It is a dash if no peer has the
-- id.
abbrev pub name_of : List (List ℕ) → List NodeId → NodeId → List ℕ
name_of names peers id = name_if names (position (λ peer. same_node peer id) peers)
