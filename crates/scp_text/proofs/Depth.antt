-- How deep the inner sets are that a text says.
use Rattle.std.proofs.Common.{◌≡◌, ℕ, zero, suc, ◌+◌, ◌≤◌, Bool, true, false, ◌&&◌, List, [], ◌∷◌, length, Option, Some, None, refl, sym, ap, subst, arith}
use Rattle.std.specs.Prelude.{nat_le, if◌then◌else◌, max}
use Rattle.std.specs.List.{AllByRecursion}
use Rattle.scp_kv.specs.scp_types.specs.declared.names.NodeId.{NodeId}
use Rattle.scp_kv.specs.scp_xdr.specs.Tree.{Tree, tree_of, in_a_row}
use Rattle.scp_wire.specs.scp_quorum.specs.QuorumTree.{Level, QuorumTree}
use Rattle.scp_wire.specs.scp_quorum.specs.Sane.{levels}
use Rattle.scp_text.specs.Pieces.{◌>>=◌, all_of}
use Rattle.scp_text.specs.Sets.{node_in, nodes_first, sets_after, level_in, within, set_with, inner_in}
use Rattle.scp_text.proofs.Fitting.{bind_some, all_fit}

abbrev pub IsShallow : ℕ → QuorumTree → Type 0
IsShallow n t = levels t.inner ≤ n

row_shallow : (n : ℕ) (sets : List QuorumTree) → AllByRecursion (IsShallow n) sets → levels (in_a_row sets) ≤ suc n
row_shallow n [] h = omega arith
row_shallow n (t ∷ ts) h = omega (arith, h.0, row_shallow n ts h.1)

within_shallow : (n threshold : ℕ) (validators : List NodeId) (inner : List QuorumTree) (t : QuorumTree) → levels (in_a_row inner) ≤ n → within threshold validators inner ≡ Some t → IsShallow n t
within_shallow n threshold validators inner t few h = by (nat_le (length validators) 1000 && nat_le (length inner) 1000) h
  where
    by : (b : Bool) → (if b then Some (tree_of (let l : Level = record { threshold = threshold; validators = validators } in l) inner) else None) ≡ Some t → IsShallow n t
    by true h =
        let same : tree_of (let l : Level = record { threshold = threshold; validators = validators } in l) inner ≡ t = cc in
        subst (IsShallow n) same few
    by false h = absurd cc

set_shallow : (n : ℕ) (w : List ℕ) (t : QuorumTree) → ((ws : List (List ℕ)) (sets : List QuorumTree) → inner_in n ws ≡ Some sets → levels (in_a_row sets) ≤ n) → set_with (inner_in n) w ≡ Some t → IsShallow n t
unfolding set_with
set_shallow n w t inner h =
    let p = bind_some (level_in w) (λ level. all_of node_in (nodes_first level.1) >>= (λ validators. inner_in n (sets_after level.1) >>= (λ inner. within level.0 validators inner))) t h in
    let q = bind_some (all_of node_in (nodes_first p.0.1)) (λ validators. inner_in n (sets_after p.0.1) >>= (λ inner. within p.0.0 validators inner)) t p.2 in
    let r = bind_some (inner_in n (sets_after p.0.1)) (λ inner. within p.0.0 q.0 inner) t q.2 in
    within_shallow n p.0.0 q.0 r.0 t (inner (sets_after p.0.1) r.0 r.1) r.2

inner_shallow : (n : ℕ) (ws : List (List ℕ)) (sets : List QuorumTree) → inner_in n ws ≡ Some sets → levels (in_a_row sets) ≤ n
unfolding inner_in
inner_shallow zero [] sets h = let same : [] ≡ sets = cc in subst (λ ts. levels (in_a_row ts) ≤ zero) same (omega arith)
inner_shallow zero (w ∷ ws) sets h = absurd cc
inner_shallow (suc n) ws sets h =
    row_shallow n sets (all_fit (set_with (inner_in n)) (IsShallow n) (λ w t e. set_shallow n w t (λ us ss g. inner_shallow n us ss g) e) ws sets h)

-- inner sets that a text says are at most so many levels deep
pub inner_few : (n : ℕ) (ws : List (List ℕ)) (sets : List QuorumTree) → n ≤ 4 → Some sets ≡ inner_in n ws → levels (in_a_row sets) ≤ 5
inner_few n ws sets few h = omega (arith, few, inner_shallow n ws sets (sym h))
