-- Rose trees: a head, and the trees inside it in a row.
use Rattle.std.specs.Prelude.{ℕ, ◌+◌, List, [], ◌∷◌}

-- trees in a row: the head of the first, the trees inside it, and the others
pub data Trees (X : Type 0) : Type 0 where
  no_trees : Trees X
  tree_then : X → Trees X → Trees X → Trees X

-- a head, and the trees inside it
pub record Tree (X : Type 0) : Type 0 where
  pub head : X
  pub inner : Trees X

-- how many trees are in a row
abbrev pub row_len : {X : Type 0} → Trees X → ℕ
row_len no_trees = 0
row_len (tree_then x inner others) = 1 + row_len others

-- a list of trees as a row
abbrev pub in_a_row : {X : Type 0} → List (Tree X) → Trees X
in_a_row [] = no_trees
in_a_row (t ∷ ts) = tree_then t.head t.inner (in_a_row ts)

-- the tree of a head and the trees inside it
abbrev pub tree_of : {X : Type 0} → X → List (Tree X) → Tree X
tree_of x ts = record { head = x; inner = in_a_row ts }

-- the same trees with other heads
abbrev pub row_map : {X Y : Type 0} → (X → Y) → Trees X → Trees Y
row_map f no_trees = no_trees
row_map f (tree_then x inner others) = tree_then (f x) (row_map f inner) (row_map f others)

-- the same tree with other heads
abbrev pub tree_map : {X Y : Type 0} → (X → Y) → Tree X → Tree Y
tree_map f t = record { head = f t.head; inner = row_map f t.inner }
