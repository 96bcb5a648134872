-- What keeps the limits of the kind has no more levels than it allows.
use Rattle.std.proofs.Common.{◌≡◌, ℕ, zero, suc, ◌+◌, ◌-◌, ◌≤◌, arith, subst}
use Rattle.scp_xdr.specs.Tree.{Trees, no_trees, tree_then, row_len, row_map}
use Rattle.scp_xdr.specs.Kind.{Fits, RowFits}
use Rattle.scp_quorum.specs.QuorumTree.{Level, QuorumTree}
use Rattle.scp_quorum.specs.QuorumKind.{level_kind, set_kind, level_value, set_value}
use Rattle.scp_quorum.specs.Sane.{levels}

abbrev RowFit : ℕ → Trees Level → Type 0
RowFit l row = RowFits (λ v. Fits level_kind v) l 1000 (row_map level_value row)

none : (row : Trees Level) → row_len (row_map level_value row) ≤ 0 → levels row ≡ 0
none no_trees h = omega arith
none (tree_then x inner others) h = absurd (omega (arith, h))

one_below : (l : ℕ) (row : Trees Level) → RowFit (suc l - 1) row → RowFit l row
one_below l row h = let k : suc l - 1 ≡ l = omega arith in let P : ℕ → Type 0 = λ n. RowFit n row in subst P k h

row_levels : (row : Trees Level) (l : ℕ) → RowFit l row → levels row ≤ l + 1
row_levels no_trees l h = omega arith
row_levels (tree_then x inner others) zero h = omega (arith, none inner h.0.1, row_levels others zero h.1)
row_levels (tree_then x inner others) (suc l) h = omega (arith, row_levels inner l (one_below l inner h.0.3), row_levels others (suc l) h.1)

pub few_levels : (q : QuorumTree) → Fits set_kind (set_value q) → levels q.inner ≤ 4
few_levels q h = omega (arith, row_levels q.inner 3 (one_below 3 q.inner h.3))
