-- Parts of parts, and lines that are left out.
use Rattle.std.proofs.Common.{◌≡◌, ℕ, Bool, true, false, List, [], ◌∷◌, ◌++◌, refl, sym, ap, ◌∙◌, inl, inr, ⊎_elim}
use Rattle.std.specs.Prelude.{◌⊎◌, filter, map, if◌then◌else◌}
use Rattle.scp_sim_findings.specs.Shrunk.{IsPart, IsSmaller, is_kept}

-- nothing is a part of all
pub nothing_part : (all : List (List ℕ)) → IsPart [] all
nothing_part [] = tt
nothing_part (line ∷ all) = nothing_part all

-- all is a part of itself
pub whole_part : (all : List (List ℕ)) → IsPart all all
whole_part [] = tt
whole_part (line ∷ all) = inl (refl, whole_part all)

-- a part of a part is one
pub part_of_part : (some more all : List (List ℕ)) → IsPart some more → IsPart more all → IsPart some all
part_of_part [] more all p q = nothing_part all
part_of_part (line ∷ some) [] all p q = absurd p
part_of_part (line ∷ some) (m ∷ more) [] p q = absurd q
part_of_part (line ∷ some) (m ∷ more) (other ∷ all) p q =
    ⊎_elim
    (λ (here : (m ≡ other) × IsPart more all).
    ⊎_elim
    (λ (both : (line ≡ m) × IsPart some more). inl (both.0 ∙ here.0, part_of_part some more all both.1 here.1))
    (λ (later : IsPart (line ∷ some) more). inr (part_of_part (line ∷ some) more all later here.1))
    p)
    (λ (behind : IsPart (m ∷ more) all). inr (part_of_part (line ∷ some) (m ∷ more) all p behind))
    q

-- one more behind the part
pub later_part : (some all : List (List ℕ)) (other : List ℕ) → IsPart some all → IsPart some (other ∷ all)
later_part [] all other p = p
later_part (line ∷ some) all other p = inr p

-- those that are never left out
abbrev pub kept : {X : Type 0} → (X → List ℕ) → List X → List X
kept f b = filter (λ x. is_kept (f x)) b

kept_one : {X : Type 0} (f : X → List ℕ) (x : X) (b c : List X) (yes : Bool)
    → IsPart (map f (kept f b ++ c)) (map f (b ++ c))
    → IsPart (map f ((if yes then x ∷ kept f b else kept f b) ++ c)) (f x ∷ map f (b ++ c))
kept_one f x b c true p = inl (refl, p)
kept_one f x b c false p = later_part (map f (kept f b ++ c)) (map f (b ++ c)) (f x) p

kept_part : {X : Type 0} (f : X → List ℕ) (b c : List X) → IsPart (map f (kept f b ++ c)) (map f (b ++ c))
kept_part f [] c = whole_part (map f c)
kept_part f (x ∷ b) c = kept_one f x b c (is_kept (f x)) (kept_part f b c)

same_one : {X : Type 0} (f : X → List ℕ) (x : X) (b c : List X) (yes : Bool) → is_kept (f x) ≡ yes
    → filter is_kept (map f (kept f b ++ c)) ≡ filter is_kept (map f (b ++ c))
    → filter is_kept (map f ((if yes then x ∷ kept f b else kept f b) ++ c)) ≡ filter is_kept (f x ∷ map f (b ++ c))
same_one f x b c true e is = ap (λ (r : List (List ℕ)). if is_kept (f x) then f x ∷ r else r) is
same_one f x b c false e is =
    let all : List (List ℕ) = filter is_kept (map f (b ++ c)) in
    is ∙ ap (λ (yes : Bool). if yes then f x ∷ all else all) (sym e)

same_kept : {X : Type 0} (f : X → List ℕ) (b c : List X) → filter is_kept (map f (kept f b ++ c)) ≡ filter is_kept (map f (b ++ c))
same_kept f [] c = refl
same_kept f (x ∷ b) c = same_one f x b c (is_kept (f x)) refl (same_kept f b c)

middle_part : {X : Type 0} (f : X → List ℕ) (a b c : List X) → IsPart (map f (a ++ (kept f b ++ c))) (map f (a ++ (b ++ c)))
middle_part f [] b c = kept_part f b c
middle_part f (x ∷ a) b c = inl (refl, middle_part f a b c)

middle_kept : {X : Type 0} (f : X → List ℕ) (a b c : List X) → filter is_kept (map f (a ++ (kept f b ++ c))) ≡ filter is_kept (map f (a ++ (b ++ c)))
middle_kept f [] b c = same_kept f b c
middle_kept f (x ∷ a) b c = ap (λ (r : List (List ℕ)). if is_kept (f x) then f x ∷ r else r) (middle_kept f a b c)

-- of some in the middle only those stay that are never left out
pub middle_out : {X : Type 0} (f : X → List ℕ) (a b c : List X) → IsSmaller (map f (a ++ (kept f b ++ c))) (map f (a ++ (b ++ c)))
middle_out f a b c = record { part = middle_part f a b c; kept = middle_kept f a b c }

pub whole_smaller : (all : List (List ℕ)) → IsSmaller all all
whole_smaller all = record { part = whole_part all; kept = refl }

pub smaller_of_smaller : (some more all : List (List ℕ)) → IsSmaller some more → IsSmaller more all → IsSmaller some all
smaller_of_smaller some more all p q = record { part = part_of_part some more all p.part q.part; kept = p.kept ∙ q.kept }
