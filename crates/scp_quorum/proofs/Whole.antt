-- A quorum set's limits, encoding and length, from those of its parts.
use Rattle.std.proofs.Common.{◌≡◌, ℕ, zero, suc, ◌+◌, ◌-◌, ◌<◌, ◌≤◌, ◌^◌, List, [], ◌∷◌, ◌++◌, length, arith, sym, ◌∙◌, ap, subst, append_assoc}
use Rattle.std.specs.Prelude.{map}
use Rattle.std.specs.List.{flat_map, sum_by, AllByRecursion}
use Rattle.std.proofs.lemmas.List.{length-map}
use Rattle.std.proofs.lemmas.List.Folds.{flat_map-map}
use Rattle.scp_xdr.specs.scp_types.specs.declared.names.NodeId.{NodeId}
use Rattle.scp_xdr.specs.Tree.{Trees, Tree, row_len, row_map, in_a_row, tree_of}
use Rattle.scp_xdr.specs.Kind.{array, Values, Fits, TreeFits, RowFits, limit_at, word, spelling, row_spelling, tree_spelling}
use Rattle.scp_xdr.specs.Length.{spelled_len, row_size, tree_size}
use Rattle.scp_xdr.specs.Shared.{node_kind, node_value}
use Rattle.scp_xdr.proofs.Rows.{row_len-in_a_row, row_map-in_a_row, row_spelling-in_a_row, row_size-in_a_row, row_fits, fits_row}
use Rattle.scp_xdr.proofs.Spending.{sum_by-map}
use Rattle.scp_quorum.specs.QuorumTree.{QuorumTree}
use Rattle.scp_quorum.specs.QuorumKind.{level_kind, set_kind, level_value, set_value, set_spelling}

abbrev pub made : ℕ → List NodeId → List QuorumTree → QuorumTree
made k vs qs = tree_of (record { threshold = k; validators = vs }) qs

abbrev pub FitsAt : ℕ → QuorumTree → Type 0
FitsAt levels q = TreeFits (λ v. Fits level_kind v) levels 1000 (set_value q)

-- the inner sets as the kind sees them
pub row_is : (qs : List QuorumTree) → row_map level_value (in_a_row qs) ≡ in_a_row (map set_value qs)
row_is qs = row_map-in_a_row level_value qs

pub row_len_is : (qs : List QuorumTree) → row_len (row_map level_value (in_a_row qs)) ≡ length qs
row_len_is qs = ap row_len (row_is qs) ∙ row_len-in_a_row (map set_value qs) ∙ length-map qs set_value

-- a level and the inner sets as the kind sees them are the set as the kind sees it
pub set_is : (k : ℕ) (vs : List NodeId) (qs : List QuorumTree) → tree_of (k, map node_value vs) (map set_value qs) ≡ set_value (made k vs qs)
set_is k vs qs = ap (λ (row : Trees (Values level_kind)). let t : Tree (Values level_kind) = record { head = (k, map node_value vs); inner = row } in t) (sym (row_is qs))

by_view : (levels : ℕ) (qs : List QuorumTree) → AllByRecursion (FitsAt levels) qs → AllByRecursion (TreeFits (λ v. Fits level_kind v) levels 1000) (map set_value qs)
by_view levels [] h = tt
by_view levels (q ∷ qs) h = (h.0, by_view levels qs h.1)

of_view : (levels : ℕ) (qs : List QuorumTree) → AllByRecursion (TreeFits (λ v. Fits level_kind v) levels 1000) (map set_value qs) → AllByRecursion (FitsAt levels) qs
of_view levels [] h = tt
of_view levels (q ∷ qs) h = (h.0, of_view levels qs h.1)

pub made_fits : (levels k : ℕ) (vs : List NodeId) (qs : List QuorumTree) → k < 2 ^ 32 → Fits (array 1000 node_kind) (map node_value vs) → length qs ≤ limit_at levels 1000 → length qs < 2 ^ 32 → AllByRecursion (FitsAt (levels - 1)) qs → FitsAt levels (made k vs qs)
made_fits levels k vs qs small nodes few less each =
    let row : RowFits (λ v. Fits level_kind v) (levels - 1) 1000 (row_map level_value (in_a_row qs)) =
    subst (λ (r : Trees (Values level_kind)). RowFits (λ v. Fits level_kind v) (levels - 1) 1000 r) (sym (row_is qs)) (row_fits (λ v. Fits level_kind v) (levels - 1) 1000 (map set_value qs) (by_view (levels - 1) qs each))
    in
    ((small, nodes), omega (arith, row_len_is qs, few), omega (arith, row_len_is qs, less), row)

pub made_few : (levels k : ℕ) (vs : List NodeId) (qs : List QuorumTree) → FitsAt levels (made k vs qs) → length qs ≤ limit_at levels 1000
made_few levels k vs qs fits = omega (arith, row_len_is qs, fits.1)

pub made_each : (levels k : ℕ) (vs : List NodeId) (qs : List QuorumTree) → FitsAt levels (made k vs qs) → AllByRecursion (FitsAt (levels - 1)) qs
made_each levels k vs qs fits =
    let row : RowFits (λ v. Fits level_kind v) (levels - 1) 1000 (in_a_row (map set_value qs)) =
    subst (λ (r : Trees (Values level_kind)). RowFits (λ v. Fits level_kind v) (levels - 1) 1000 r) (row_is qs) fits.3
    in
    of_view (levels - 1) qs (fits_row (λ v. Fits level_kind v) (levels - 1) 1000 (map set_value qs) row)

pub limit_none : (levels n : ℕ) → levels ≡ 0 → n ≡ 0 → n ≡ limit_at levels 1000
limit_none zero n z e = e
limit_none (suc levels) n z e = absurd (omega arith)

pub limit_some : (levels n : ℕ) → 0 < levels → n ≡ 1000 → n ≡ limit_at levels 1000
limit_some zero n h e = absurd (omega arith)
limit_some (suc levels) n h e = e

pub limit_le : (levels : ℕ) → limit_at levels 1000 ≤ 1000
limit_le zero = omega arith
limit_le (suc levels) = omega arith

pub made_text : (k : ℕ) (vs : List NodeId) (qs : List QuorumTree) → set_spelling (made k vs qs) ≡ (word k ++ spelling (array 1000 node_kind) (map node_value vs)) ++ (word (length qs) ++ flat_map set_spelling qs)
made_text k vs qs =
    let text : Values level_kind → List ℕ = λ v. spelling level_kind v in
    let front : List ℕ = word k ++ spelling (array 1000 node_kind) (map node_value vs) in
    let rows : row_spelling text (row_map level_value (in_a_row qs)) ≡ flat_map set_spelling qs =
    ap (row_spelling text) (row_is qs) ∙ row_spelling-in_a_row text (map set_value qs) ∙ flat_map-map (tree_spelling text) set_value qs
    in
    ap (λ (n : ℕ). front ++ (word n ++ row_spelling text (row_map level_value (in_a_row qs)))) (row_len_is qs) ∙ ap (λ (bytes : List ℕ). front ++ (word (length qs) ++ bytes)) rows

abbrev pub set_len : QuorumTree → ℕ
set_len q = spelled_len set_kind (set_value q)

-- how many bytes the encodings of nodes have
abbrev pub nodes_len : List NodeId → ℕ
nodes_len vs = sum_by (λ v. spelled_len node_kind v) (map node_value vs)

pub made_len : (k : ℕ) (vs : List NodeId) (qs : List QuorumTree) → set_len (made k vs qs) ≡ (4 + (4 + nodes_len vs)) + (4 + sum_by set_len qs)
made_len k vs qs =
    let size : Values level_kind → ℕ = λ v. spelled_len level_kind v in
    let rows : row_size size (row_map level_value (in_a_row qs)) ≡ sum_by set_len qs =
    ap (row_size size) (row_is qs) ∙ row_size-in_a_row size (map set_value qs) ∙ sum_by-map (tree_size size) set_value qs
    in
    omega (arith, rows)

-- four parts, one after the other
pub put_behind : (o a b c d w t n r : List ℕ) → a ≡ o ++ w → b ≡ a ++ t → c ≡ b ++ n → d ≡ c ++ r → d ≡ o ++ ((w ++ t) ++ (n ++ r))
put_behind o a b c d w t n r e1 e2 e3 e4 = rw (e4, e3, e2, e1) (simp append_assoc)

-- two of them
pub put_two : (o a b w t : List ℕ) → a ≡ o ++ w → b ≡ a ++ t → b ≡ o ++ (w ++ t)
put_two o a b w t e1 e2 = rw (e2, e1) (simp append_assoc)
