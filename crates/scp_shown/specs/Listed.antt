-- Lists that are made of other lists.
use Rattle.std.specs.Prelude.{◌≡◌, ◌⊎◌, ◌++◌, ◌∷◌, [], ℕ, List, fold}
use Rattle.std.specs.BTreeSet.{insert_key}
use Rattle.scp_history.specs.scp_types.specs.declared.names.NodeId.{NodeId}
use Rattle.scp_history.specs.scp_quorum.specs.NodeSet.{node_cmp}
use Rattle.scp_history.specs.scp_envelope.specs.Ballots.{value_cmp}

module _ {X : Type 0} where
  -- the second list has those of the first of which the fact holds, in their order
  abbrev pub Picks : (X → Type 0) → List X → List X → Type 0
  Picks P [] ys = ys ≡ []
  Picks P (x ∷ xs) ys = ((rest : List X) × P x × (ys ≡ x ∷ rest) × Picks P xs rest) ⊎ ((¬ P x) × Picks P xs ys)

module _ {X Y : Type 0} where
  -- the list is what each thing adds, one after another
  abbrev pub AddsEach : (X → List Y → Type 0) → List X → List Y → Type 0
  AddsEach R [] all = all ≡ []
  AddsEach R (x ∷ xs) all = (here : List Y) × (rest : List Y) × R x here × AddsEach R xs rest × (all ≡ here ++ rest)

-- these nodes, ascending, each once
abbrev pub ascending : List NodeId → List NodeId
ascending nodes = fold (insert_key node_cmp) [] nodes

-- these values, ascending, each once
abbrev pub ascending_values : List (List ℕ) → List (List ℕ)
ascending_values xs = fold (insert_key value_cmp) [] xs
