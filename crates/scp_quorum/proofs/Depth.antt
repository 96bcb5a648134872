-- How many levels a row of sets has, over its sets one at a time.
use Rattle.std.proofs.Common.{◌≡◌, ℕ, ◌-◌, ◌<◌, ◌≤◌, List, [], ◌∷◌, arith, refl}
use Rattle.std.specs.List.{All, AllByRecursion}
use Rattle.std.proofs.lemmas.List.Elements.{recursion_from_All, All-from_recursion}
use Rattle.scp_xdr.specs.Tree.{in_a_row}
use Rattle.scp_quorum.specs.QuorumTree.{QuorumTree}
use Rattle.scp_quorum.specs.Sane.{levels}

-- one set below others
abbrev pub IsWithin : ℕ → QuorumTree → Type 0
IsWithin n q = levels q.inner ≤ n

abbrev pub AreWithin : ℕ → List QuorumTree → Type 0
AreWithin n qs = levels (in_a_row qs) ≤ n

deep_list : (n : ℕ) (qs : List QuorumTree) → 0 < n → AreWithin n qs → AllByRecursion (IsWithin (n - 1)) qs
deep_list n [] some h = tt
deep_list n (q ∷ qs) some h = (omega (arith, some, h), deep_list n qs some (omega (arith, h)))

list_deep : (n : ℕ) (qs : List QuorumTree) → 0 < n → AllByRecursion (IsWithin (n - 1)) qs → AreWithin n qs
list_deep n [] some h = omega arith
list_deep n (q ∷ qs) some h = omega (arith, some, h.0, list_deep n qs some h.1)

pub each_within : (n : ℕ) (qs : List QuorumTree) → 0 < n → AreWithin n qs → All (IsWithin (n - 1)) qs
each_within n qs some h = All-from_recursion (IsWithin (n - 1)) qs (deep_list n qs some h)

pub all_within : (n : ℕ) (qs : List QuorumTree) → 0 < n → All (IsWithin (n - 1)) qs → AreWithin n qs
all_within n qs some h = list_deep n qs some (recursion_from_All (IsWithin (n - 1)) qs h)

-- a row has no levels where it has no sets
pub none_within : (n : ℕ) (qs : List QuorumTree) → n ≡ 0 → AreWithin n qs → qs ≡ []
none_within n [] none h = refl
none_within n (q ∷ qs) none h = absurd (omega (arith, none, h))

pub within_none : (n : ℕ) (qs : List QuorumTree) → qs ≡ [] → AreWithin n qs
within_none n [] e = omega arith
within_none n (q ∷ qs) e = cc
