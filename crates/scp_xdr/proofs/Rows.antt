-- Trees in a row, as a list of trees.
use Rattle.std.proofs.Common.{◌≡◌, ℕ, List, [], ◌∷◌, ◌++◌, length, refl, ap, arith}
use Rattle.std.specs.Prelude.{map}
use Rattle.std.specs.List.{flat_map, AllByRecursion, sum_by}
use Rattle.std.proofs.lemmas.List.Sums.{sum_by-cons}
use Rattle.scp_xdr.specs.Tree.{Trees, no_trees, tree_then, Tree, row_len, in_a_row, row_map, tree_map}
use Rattle.scp_xdr.specs.Kind.{row_spelling, tree_spelling, RowFits, TreeFits}
use Rattle.scp_xdr.specs.Length.{row_size, tree_size}

pub trees_of : {X : Type 0} → Trees X → List (Tree X)
trees_of no_trees = []
trees_of (tree_then x inner others) = record { head = x; inner = inner } ∷ trees_of others

pub in_a_row-trees_of : {X : Type 0} (row : Trees X) → in_a_row (trees_of row) ≡ row
unfolding trees_of
in_a_row-trees_of no_trees = refl
in_a_row-trees_of {X} (tree_then x inner others) = ap (λ (row : Trees X). tree_then x inner row) (in_a_row-trees_of others)

pub row_len-in_a_row : {X : Type 0} (ts : List (Tree X)) → row_len (in_a_row ts) ≡ length ts
row_len-in_a_row [] = refl
row_len-in_a_row (t ∷ ts) = omega (arith, row_len-in_a_row ts)

pub row_spelling-in_a_row : {X : Type 0} (text : X → List ℕ) (ts : List (Tree X)) → row_spelling text (in_a_row ts) ≡ flat_map (tree_spelling text) ts
row_spelling-in_a_row text [] = refl
row_spelling-in_a_row text (t ∷ ts) = ap (λ (bytes : List ℕ). tree_spelling text t ++ bytes) (row_spelling-in_a_row text ts)

pub row_size-in_a_row : {X : Type 0} (size : X → ℕ) (ts : List (Tree X)) → row_size size (in_a_row ts) ≡ sum_by (tree_size size) ts
row_size-in_a_row size [] = refl
row_size-in_a_row size (t ∷ ts) = omega (arith, row_size-in_a_row size ts, sum_by-cons (tree_size size) t ts)

pub row_fits : {X : Type 0} (Fit : X → Type 0) (levels max : ℕ) (ts : List (Tree X)) → AllByRecursion (TreeFits Fit levels max) ts → RowFits Fit levels max (in_a_row ts)
row_fits Fit levels max [] h = tt
row_fits Fit levels max (t ∷ ts) h = (h.0, row_fits Fit levels max ts h.1)

pub fits_row : {X : Type 0} (Fit : X → Type 0) (levels max : ℕ) (ts : List (Tree X)) → RowFits Fit levels max (in_a_row ts) → AllByRecursion (TreeFits Fit levels max) ts
fits_row Fit levels max [] h = tt
fits_row Fit levels max (t ∷ ts) h = (h.0, fits_row Fit levels max ts h.1)

pub row_map-in_a_row : {X Y : Type 0} (f : X → Y) (ts : List (Tree X)) → row_map f (in_a_row ts) ≡ in_a_row (map (tree_map f) ts)
row_map-in_a_row f [] = refl
row_map-in_a_row {X} {Y} f (t ∷ ts) = ap (λ (row : Trees Y). tree_then (f t.head) (row_map f t.inner) row) (row_map-in_a_row f ts)
