-- What the model of a type needs if contracts see it as a tree: its size, and a code of trees.
-- No public clause reaches this: nothing here need be believed.
use Rattle.std.specs.Prelude.{◌≡◌, ℕ, ◌+◌, ◌≤◌, List, [], ◌∷◌, refl}
use Rattle.std.specs.Coded.{Coded, code_by, coded×}
use Rattle.std.proofs.Common.{arith}
use base.Stored.{Gv, gnil, gcons}
use denote.Param.Weighed.{most}
use Rattle.scp_xdr.specs.Tree.{Trees, no_trees, tree_then, Tree, in_a_row}

-- how many trees are in a row, with those inside them
abbrev pub row_count : {X : Type 0} → Trees X → ℕ
row_count no_trees = 0
row_count (tree_then x inner others) = 1 + row_count inner + row_count others

abbrev pub tree_count : {X : Type 0} → Tree X → ℕ
tree_count t = 1 + row_count t.inner

pub most_le-row_count : {X : Type 0} (ts : List (Tree X)) → most (λ t. tree_count t + 1) ts ≤ row_count (in_a_row ts) + 1
most_le-row_count [] = omega arith
most_le-row_count (t ∷ ts) = omega (arith, most_le-row_count ts)

-- the code by which proofs tell trees apart, from one of their heads
abbrev pub row_code : {X : Type 0} → Coded X → Trees X → Gv
row_code heads no_trees = gnil
row_code heads (tree_then x inner others) = gcons (heads.code x) (gcons (row_code heads inner) (row_code heads others))

pub row_code-inj : {X : Type 0} (heads : Coded X) (xs ys : Trees X) → row_code heads xs ≡ row_code heads ys → xs ≡ ys
row_code-inj heads no_trees no_trees e = refl
row_code-inj heads no_trees (tree_then x inner others) e = cc
row_code-inj heads (tree_then x inner others) no_trees e = cc
row_code-inj heads (tree_then x inner others) (tree_then y inner' others') e =
    let head : heads.code x ≡ heads.code y = cc in
    let below : row_code heads inner ≡ row_code heads inner' = cc in
    let behind : row_code heads others ≡ row_code heads others' = cc in
    let same_head : x ≡ y = heads.inj x y head in
    let same_below : inner ≡ inner' = row_code-inj heads inner inner' below in
    let same_behind : others ≡ others' = row_code-inj heads others others' behind in
    cc

abbrev pub coded_row : {X : Type 0} → Coded X → Coded (Trees X)
coded_row heads = record { code = row_code heads; inj = row_code-inj heads }

abbrev pub coded_tree : {X : Type 0} → Coded X → Coded (Tree X)
coded_tree {X} heads = code_by (X × Trees X) (coded× heads (coded_row heads)) (λ t. (t.head, t.inner)) (λ p. record { head = p.0; inner = p.1 }) (λ _. refl)
