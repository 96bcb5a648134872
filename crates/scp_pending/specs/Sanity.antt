-- The tests that the rules make of a quorum set: whether it is sane, and whether it has an encoding. Their laws are at the end; the terms
-- above only decide what the laws say.
use Rattle.std.specs.Prelude.{ℕ, zero, suc, ◌+◌, ◌-◌, ◌≤◌, ◌^◌, ◌≡◌, ◌↔◌, refl, Bool, true, false, List, [], ◌∷◌, Some, None, length}
use Rattle.std.proofs.Common.{inl, inr}
use Rattle.std.proofs.Math.Decide.{dec_le, dec_lt, map_dec}
use Rattle.std.specs.List.{AllByRecursion, IsDistinct}
use Rattle.std.specs.Ordering.{eq_by_cmp}
use Rattle.scp_wire.specs.scp_xdr.specs.Tree.{Trees, no_trees, tree_then, row_len}
use Rattle.scp_wire.specs.scp_xdr.specs.Kind.{Kind, uint32, uint64, fixed, opaque, optional, array, numbered, both, union, tree, Arms, no_arm, arm, Values, ArmValues, Fits, ArmFits, tag_of, RowFits, limit_at}
use Rattle.scp_wire.specs.scp_quorum.specs.NodeSet.{node_cmp}
use Rattle.scp_wire.specs.scp_quorum.specs.QuorumTree.{Level, QuorumTree}
use Rattle.scp_wire.specs.scp_quorum.specs.QuorumKind.{set_kind, set_value, set_spelling}
use Rattle.scp_wire.specs.scp_quorum.specs.Sane.{IsSane, IsInRange, AreInRange, all_nodes, levels}

-- if each of two facts can be decided, so can both together
decide_both : {A B : Type 0} → Dec A → Dec B → Dec (A × B)
decide_both (yes a) (yes b) = yes (a, b)
decide_both (yes a) (no n) = no (λ p. n p.1)
decide_both (no n) d = no (λ p. n p.0)

-- so can three
decide_three : {A B C : Type 0} → Dec A → Dec B → Dec C → Dec (A × B × C)
decide_three (yes a) (yes b) (yes c) = yes (a, b, c)
decide_three (yes a) (yes b) (no n) = no (λ p. n p.2)
decide_three (yes a) (no n) d = no (λ p. n p.1)
decide_three (no n) d e = no (λ p. n p.0)

-- so can four
decide_four : {A B C D : Type 0} → Dec A → Dec B → Dec C → Dec D → Dec (A × B × C × D)
decide_four (yes a) (yes b) (yes c) (yes d) = yes (a, b, c, d)
decide_four (yes a) (yes b) (yes c) (no n) = no (λ p. n p.3)
decide_four (yes a) (yes b) (no n) e = no (λ p. n p.2)
decide_four (yes a) (no n) d e = no (λ p. n p.1)
decide_four (no n) c d e = no (λ p. n p.0)

-- so can six
decide_six : {A B C D E F : Type 0} → Dec A → Dec B → Dec C → Dec D → Dec E → Dec F → Dec (A × B × C × D × E × F)
decide_six {A} {B} {C} {D} {E} {F} a b c d e f = map_dec
    (λ (k : (A × B × C) × (D × E × F)). (k.0.0, k.0.1, k.0.2, k.1.0, k.1.1, k.1.2))
    (λ (k : A × B × C × D × E × F). ((k.0, k.1, k.2), (k.3, k.4, k.5)))
    (decide_both (decide_three a b c) (decide_three d e f))

-- so can what holds of each element of a list
decide_all : {X : Type 0} (P : X → Type 0) → ((x : X) → Dec (P x)) → (xs : List X) → Dec (AllByRecursion P xs)
decide_all P d [] = yes tt
decide_all P d (x ∷ xs) = decide_both (d x) (decide_all P d xs)

-- a flag is false or not
decide_false : (b : Bool) → Dec (b ≡ false)
decide_false true = no (λ e. cc)
decide_false false = yes refl

-- two numbers are equal or not
decide_number : (m n : ℕ) → Dec (m ≡ n)
decide_number zero zero = yes refl
decide_number zero (suc n) = no (λ e. cc)
decide_number (suc m) zero = no (λ e. cc)
decide_number (suc m) (suc n) = map_dec (λ e. cc) (λ e. cc) (decide_number m n)

-- if a fact can be decided, so can its negation
decide_not : {A : Type 0} → Dec A → Dec (A → ⊥)
decide_not (yes a) = no (λ n. n a)
decide_not (no n) = yes n

-- no two elements of a list are equal, or some are
decide_distinct : {K : Type 0} (e : K → K → Bool) (ks : List K) → Dec (IsDistinct e ks)
unfolding IsDistinct
decide_distinct e [] = yes tt
decide_distinct e (k ∷ ks) = decide_both (decide_all (λ y. e k y ≡ false) (λ y. decide_false (e k y)) ks) (decide_distinct e ks)

-- a row of trees fits or not
decide_row : {X : Type 0} (Fit : X → Type 0) → ((x : X) → Dec (Fit x)) → (deep max : ℕ) (row : Trees X) → Dec (RowFits Fit deep max row)
decide_row Fit d deep max no_trees = yes tt
decide_row Fit d deep max (tree_then x inner others) = decide_both (decide_four (d x) (dec_le (row_len inner) (limit_at deep max)) (dec_lt (row_len inner) (2 ^ 32)) (decide_row Fit d (deep - 1) max inner)) (decide_row Fit d deep max others)

mutual
  -- a value fits its kind or not
  decide_fits : (k : Kind) (v : Values k) → Dec (Fits k v)
  decide_fits uint32 n = dec_lt n (2 ^ 32)
  decide_fits uint64 n = dec_lt n (2 ^ 64)
  decide_fits (fixed n) bytes = decide_number (length bytes) n
  decide_fits (opaque max) bytes = decide_both (dec_le (length bytes) max) (dec_lt (length bytes) (2 ^ 32))
  decide_fits (optional k) None = yes tt
  decide_fits (optional k) (Some v) = decide_fits k v
  decide_fits (array max k) vs = decide_three (dec_le (length vs) max) (dec_lt (length vs) (2 ^ 32)) (decide_all (λ v. Fits k v) (λ v. decide_fits k v) vs)
  decide_fits (numbered max k) v = decide_six (dec_lt v.0 (2 ^ 64)) (dec_lt 0 (length v.1)) (dec_le (length v.1) max) (dec_lt (length v.1) (2 ^ 32)) (dec_le (v.0 + length v.1) (2 ^ 64)) (decide_all (λ x. Fits k x) (λ x. decide_fits k x) v.1)
  decide_fits (both a b) v = decide_both (decide_fits a v.0) (decide_fits b v.1)
  decide_fits (union arms) v = decide_arm arms v
  decide_fits (tree deep max head) t = decide_four (decide_fits head t.head) (dec_le (row_len t.inner) (limit_at deep max)) (dec_lt (row_len t.inner) (2 ^ 32)) (decide_row (λ v. Fits head v) (λ v. decide_fits head v) (deep - 1) max t.inner)

  -- a value of one of the arms fits or not
  decide_arm : (arms : Arms) (v : ArmValues arms) → Dec (ArmFits arms v)
  decide_arm no_arm v = elim v [ ]
  decide_arm (arm tag k others) (inl v) = decide_both (dec_lt tag (2 ^ 32)) (decide_fits k v)
  decide_arm (arm tag k others) (inr v) = decide_both (decide_not (decide_number (tag_of others v) tag)) (decide_arm others v)

-- the thresholds of inner sets are in range or not
decide_ranges : (row : Trees Level) → Dec (AreInRange row)
decide_ranges no_trees = yes tt
decide_ranges (tree_then level inner others) = decide_both (decide_three (dec_le 1 level.threshold) (dec_le level.threshold (length level.validators + row_len inner)) (decide_ranges inner)) (decide_ranges others)

-- the parts of sanity, in a row
abbrev AllOfSane : QuorumTree → Type 0
AllOfSane q = (IsInRange q × IsDistinct (eq_by_cmp node_cmp) (all_nodes q) × (length (all_nodes q) ≤ 1000)) × ((levels q.inner ≤ 4) × Fits set_kind (set_value q) × (length (set_spelling q) ≤ 65532))

-- a quorum set is sane or not
pub sane_or_not : (q : QuorumTree) → Dec (IsSane q)
sane_or_not q = map_dec
    (λ (a : AllOfSane q). record { in_range = a.0.0; distinct = a.0.1; few_nodes = a.0.2; shallow = a.1.0; fits = a.1.1; short = a.1.2 })
    (λ (s : IsSane q). ((s.in_range, s.distinct, s.few_nodes), (s.shallow, s.fits, s.short)))
    (decide_both
    (decide_three (decide_three (dec_le 1 q.head.threshold) (dec_le q.head.threshold (length q.head.validators + row_len q.inner)) (decide_ranges q.inner)) (decide_distinct (eq_by_cmp node_cmp) (all_nodes q)) (dec_le (length (all_nodes q)) 1000))
    (decide_three (dec_le (levels q.inner) 4) (decide_fits set_kind (set_value q)) (dec_le (length (set_spelling q)) 65532)))

-- a quorum set has an encoding or not
pub spelt_or_not : (q : QuorumTree) → Dec (Fits set_kind (set_value q))
spelt_or_not q = decide_fits set_kind (set_value q)

-- it was decided that the fact holds
abbrev pub is_yes : {A : Type 0} → Dec A → Bool
is_yes (yes a) = true
is_yes (no n) = false

-- the quorum set is sane
unfoldable pub is_sane : QuorumTree → Bool
is_sane q = is_yes (sane_or_not q)

-- the quorum set has an encoding
unfoldable pub has_spelling : QuorumTree → Bool
has_spelling q = is_yes (spelt_or_not q)

-- the test of sanity passes exactly the sane quorum sets
abbrev pub SanityIsTold : Type 0
SanityIsTold = (q : QuorumTree) → (is_sane q ≡ true) ↔ IsSane q

-- the test of encoding passes exactly the quorum sets that fit the XDR kind
abbrev pub SpellingIsTold : Type 0
SpellingIsTold = (q : QuorumTree) → (has_spelling q ≡ true) ↔ Fits set_kind (set_value q)
