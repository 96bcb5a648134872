-- Of ascending lists, one that contains another is that list or longer.
use Rattle.std.proofs.Common.{◌≡◌, ◌<◌, ◌⊎◌, ℕ, zero, suc, List, [], ◌∷◌, length, get_or, refl, sym, ap, subst, inl, inr, ⊎_elim, arith}
use Rattle.std.specs.List.{Contains, AllByRecursion}
use Rattle.std.specs.List.Sorted.{IsStrictlySortedBy}
use Rattle.std.specs.declared.cmp.Ordering.TheVariants.{Less, Equal}
use Rattle.std.proofs.lemmas.Cmp.{nat_list_cmp_total, tied_itself}
use Rattle.std.proofs.lemmas.List.Elements.{recursion_from_All, All-weaker}
use Rattle.scp_envelope.specs.Ballots.{value_cmp}
use Rattle.scp_envelope.specs.Newer.{ContainsAll}
use Rattle.scp_envelope.specs.Laws.{LargerIsLonger}
use Rattle.scp_envelope.proofs.Growing.{contains_all_itself}

-- the list has the value, by recursion on the list
abbrev Has : List (List ℕ) → List ℕ → Type 0
Has [] v = ⊥
Has (y ∷ ys) v = (v ≡ y) ⊎ Has ys v

has_at : (ys : List (List ℕ)) (k : ℕ) (v d : List ℕ) → k < length ys → get_or ys k d ≡ v → Has ys v
has_at [] k v d lt e = absurd (omega arith)
has_at (y ∷ ys) zero v d lt e = inl (sym e)
has_at (y ∷ ys) (suc k) v d lt e = inr (has_at ys k v d (omega arith) e)

each : (new old : List (List ℕ)) → ContainsAll new old → AllByRecursion (λ v. Has new v) old
unfolding ContainsAll
each new old h = recursion_from_All (Has new) old (All-weaker (Contains new) (Has new) (λ v c. has_at new c.0 v v c.1 c.2) old h)

abbrev AreAbove : List ℕ → List (List ℕ) → Type 0
AreAbove y vs = AllByRecursion (λ v. value_cmp y v ≡ Less) vs

above_has : (ys : List (List ℕ)) (y v : List ℕ) → AreAbove y ys → Has ys v → value_cmp y v ≡ Less
above_has [] y v h m = absurd m
above_has (z ∷ zs) y v h (inl e) = rw e h.0
above_has (z ∷ zs) y v h (inr m) = above_has zs y v h.1 m

are_above : (y x : List ℕ) (vs : List (List ℕ)) → value_cmp y x ≡ Less → AreAbove x vs → AreAbove y vs
are_above y x [] lt h = tt
are_above y x (v ∷ vs) lt h = (nat_list_cmp_total.trans y x v lt h.0, are_above y x vs lt h.1)

apart : (y v : List ℕ) → value_cmp y v ≡ Less → v ≡ y → ⊥
apart y v lt e =
    let same : value_cmp y v ≡ Equal = rw e (tied_itself nat_list_cmp_total y) in
    cc

behind : (ys : List (List ℕ)) (y v : List ℕ) → Has (y ∷ ys) v → value_cmp y v ≡ Less → Has ys v
behind ys y v (inl e) lt = absurd (apart y v lt e)
behind ys y v (inr m) lt = m

all_behind : (vs ys : List (List ℕ)) (y : List ℕ) → AllByRecursion (λ v. Has (y ∷ ys) v) vs → AreAbove y vs → AllByRecursion (λ v. Has ys v) vs
all_behind [] ys y h up = tt
all_behind (v ∷ vs) ys y h up = (behind ys y v h.0 up.0, all_behind vs ys y h.1 up.1)

grows : (new old : List (List ℕ)) → IsStrictlySortedBy value_cmp new → IsStrictlySortedBy value_cmp old → AllByRecursion (λ v. Has new v) old → (length old < length new) ⊎ (old ≡ new)
unfolding IsStrictlySortedBy
grows [] [] n o h = inr refl
grows [] (x ∷ xs) n o h = absurd h.0
grows (y ∷ ys) [] n o h = inl (omega arith)
grows (y ∷ ys) (x ∷ xs) n o h =
    elim h.0 [
      | inl e ↦ ⊎_elim (λ lt. inl (longer_both x y xs ys lt)) (λ same. inr (equal_both x y xs ys e same)) (grows ys xs n.1 o.1 (all_behind xs ys y h.1 (subst (λ z. AreAbove z xs) e o.0)))
      | inr m ↦ ⊎_elim (λ lt. inl (longer_one y ys (x ∷ xs) lt)) (λ same. inl (one_longer y ys (x ∷ xs) same)) (grows ys (x ∷ xs) n.1 o (m, all_behind xs ys y h.1 (are_above y x xs (above_has ys y x n.0 m) o.0)))
    ]
  where
    longer_both : (x y : List ℕ) (xs ys : List (List ℕ)) → length xs < length ys → length (x ∷ xs) < length (y ∷ ys)
    longer_both x y xs ys lt = omega arith

    equal_both : (x y : List ℕ) (xs ys : List (List ℕ)) → x ≡ y → xs ≡ ys → x ∷ xs ≡ y ∷ ys
    equal_both x y xs ys e f = cc

    longer_one : (y : List ℕ) (ys vs : List (List ℕ)) → length vs < length ys → length vs < length (y ∷ ys)
    longer_one y ys vs lt = omega arith

    one_longer : (y : List ℕ) (ys vs : List (List ℕ)) → vs ≡ ys → length vs < length (y ∷ ys)
    one_longer y ys vs e = let l : length vs ≡ length ys = ap length e in omega arith

pub larger_is_longer : LargerIsLonger
larger_is_longer old new olds news h = (λ not. longer not (grows new old news olds (each new old h)), λ lt back. shorter lt (grows old new olds news (each old new back)))
  where
    longer : (¬ (ContainsAll old new)) → (length old < length new) ⊎ (old ≡ new) → length old < length new
    longer not (inl lt) = lt
    longer not (inr e) = absurd (not (subst (λ z. ContainsAll old z) e (contains_all_itself old)))

    shorter : length old < length new → (length new < length old) ⊎ (new ≡ old) → ⊥
    shorter lt (inl gt) = omega arith
    shorter lt (inr e) = let l : length new ≡ length old = ap length e in omega arith
