-- Blocking is failing to satisfy without the blocking nodes.
use Rattle.std.proofs.Common.{◌≡◌, ℕ, ◌+◌, ◌≤◌, Bool, true, false, not, List, [], ◌∷◌, count_by, refl, arith, cond, IsTrue, ◌↔◌}
use Rattle.std.proofs.lemmas.Bool.{not-true}
use Rattle.std.proofs.lemmas.List.Sums.{sum_by-cons}
use Rattle.std.proofs.lemmas.Bool.Decides.{nat_tests}
use Rattle.scp_xdr.specs.scp_types.specs.declared.names.NodeId.{NodeId}
use Rattle.scp_quorum.specs.Quorum.{IsWithin}
use Rattle.scp_xdr.specs.Tree.{Trees, no_trees, tree_then}
use Rattle.scp_quorum.specs.QuorumTree.{Level, QuorumTree}
use Rattle.scp_quorum.specs.Satisfies.{satisfied_count, Satisfies, AreDisjoint, Blocks}
use Rattle.scp_quorum.specs.inside.Satisfies.{outside}

cond_mono : (a b : Bool) (m n : ℕ) → (a ≡ true → b ≡ true) → m ≤ n → cond a 1 0 + m ≤ cond b 1 0 + n
cond_mono false b m n within h = omega (arith, h)
cond_mono true false m n within h = absurd (let e : false ≡ true = within refl in cc)
cond_mono true true m n within h = omega (arith, h)

pub count_by-le-within : (us ws : NodeId → Bool) → IsWithin us ws → (vs : List NodeId) → count_by us vs ≤ count_by ws vs
count_by-le-within us ws within [] = omega arith
count_by-le-within us ws within (v ∷ vs) =
    let rest = count_by-le-within us ws within vs in
    rw (sum_by-cons (λ x. cond (us x) 1 0) v vs, sum_by-cons (λ x. cond (ws x) 1 0) v vs) (cond_mono (us v) (ws v) _ _ (within v) rest)

-- if nodes satisfy a quorum set, more nodes do too
pub satisfied_count-le-within : (us ws : NodeId → Bool) → IsWithin us ws → (qs : Trees Level) → satisfied_count us qs ≤ satisfied_count ws qs
satisfied_count-le-within us ws within no_trees = omega arith
satisfied_count-le-within us ws within (tree_then level inner others) =
    let here = count_by-le-within us ws within level.validators in
    let below = satisfied_count-le-within us ws within inner in
    let behind = satisfied_count-le-within us ws within others in
    grind (arith, nat_tests, here, below, behind)

pub Satisfies-within : (us ws : NodeId → Bool) → IsWithin us ws → (q : QuorumTree) → Satisfies us q → Satisfies ws q
Satisfies-within us ws within q h = omega (arith, count_by-le-within us ws within q.head.validators, satisfied_count-le-within us ws within q.inner)

pub disjoint_outside : (us ws : NodeId → Bool) → AreDisjoint us ws → IsWithin us (outside ws)
disjoint_outside us ws apart v h = rw (apart v h)

pub outside_disjoint : (ws : NodeId → Bool) → AreDisjoint (outside ws) ws
outside_disjoint ws v h = not-true (ws v) h

-- the nodes block exactly where the nodes outside do not satisfy
pub Blocks-from_outside : (nodes : NodeId → Bool) (q : QuorumTree) → (Satisfies (outside nodes) q → ⊥) → Blocks nodes q
Blocks-from_outside nodes q fails others apart h = fails (Satisfies-within others (outside nodes) (disjoint_outside others nodes apart) q h)

pub outside_fails : (nodes : NodeId → Bool) (q : QuorumTree) → Blocks nodes q → Satisfies (outside nodes) q → ⊥
outside_fails nodes q blocks h = blocks (outside nodes) (outside_disjoint nodes) h

pub blocks_iff_not : (b : Bool) (nodes : NodeId → Bool) (q : QuorumTree) → (IsTrue b ↔ Satisfies (outside nodes) q) → (IsTrue (not b) ↔ Blocks nodes q)
blocks_iff_not true nodes q satisfied = (λ h. cc, λ h. absurd (outside_fails nodes q h (satisfied.0 refl)))
blocks_iff_not false nodes q satisfied = (λ h. Blocks-from_outside nodes q (λ k. let e : false ≡ true = satisfied.1 k in cc), λ h. refl)
