-- What is mapped to another type and back is as it was.
use Rattle.std.proofs.Common.{◌≡◌, List, [], ◌∷◌, refl, inl, inr}
use Rattle.std.specs.Prelude.{map}
use Rattle.scp_xdr.specs.Tree.{Trees, no_trees, tree_then, Tree, row_map, tree_map}
use Rattle.scp_xdr.specs.Kind.{Values}
use Rattle.scp_xdr.specs.Shared.{node_kind, node_value, node_of}

pub each_again : {X Y : Type 0} (f : X → Y) (g : Y → X) → ((x : X) → g (f x) ≡ x) → (xs : List X) → map g (map f xs) ≡ xs
each_again f g law [] = refl
each_again f g law (x ∷ xs) = rw (law x, each_again f g law xs) refl

row_again : {X Y : Type 0} (f : X → Y) (g : Y → X) → ((x : X) → g (f x) ≡ x) → (ts : Trees X) → row_map g (row_map f ts) ≡ ts
row_again f g law no_trees = refl
row_again f g law (tree_then x inner others) = rw (law x, row_again f g law inner, row_again f g law others) refl

pub tree_again : {X Y : Type 0} (f : X → Y) (g : Y → X) → ((x : X) → g (f x) ≡ x) → (t : Tree X) → tree_map g (tree_map f t) ≡ t
tree_again f g law t = rw (law t.head, row_again f g law t.inner) refl

pub node_value_again : (v : Values node_kind) → node_value (node_of v) ≡ v
node_value_again (inl bytes) = refl
node_value_again (inr v) = elim v [ ]
