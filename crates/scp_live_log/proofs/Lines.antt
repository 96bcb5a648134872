-- Lines and their ends.
use Rattle.std.proofs.Common.{◌≡◌, ◌≢◌, ◌<◌, ◌+◌, ℕ, suc, List, [], ◌∷◌, ◌++◌, length, get_or, take, drop, refl, sym, ◌∙◌, ap, subst, arith, take-append-drop}
use Rattle.std.specs.List.{AllByRecursion}
use Rattle.std.proofs.lemmas.List.{drop_more, get_or-take, length-take}
use Rattle.scp_live_log.specs.Log.{IsLine}
use Rattle.scp_live_log.specs.inside.Front.{EndsAt}

-- what holds of each place holds of all
pub all_at : (P : ℕ → Type 0) (xs : List ℕ) → ((k : ℕ) → k < length xs → P (get_or xs k 0)) → AllByRecursion P xs
all_at P [] h = tt
all_at P (x ∷ xs) h = (h 0 (omega arith), all_at P xs (λ k lt. h (suc k) (omega arith)))

-- two lines with their ends, and what stands behind them, are the same where all of it is
pub lines_apart : (a b x y : List ℕ) → IsLine a → IsLine b → a ++ 10 ∷ x ≡ b ++ 10 ∷ y → (a ≡ b) × (x ≡ y)
lines_apart [] [] x y la lb e = (refl, cc)
lines_apart [] (k ∷ b) x y la lb e = absurd (lb.0 (let h : k ≡ 10 = cc in h))
lines_apart (j ∷ a) [] x y la lb e = absurd (la.0 (let h : j ≡ 10 = cc in h))
lines_apart (j ∷ a) (k ∷ b) x y la lb e =
    let head : j ≡ k = cc in
    let tail : a ++ 10 ∷ x ≡ b ++ 10 ∷ y = cc in
    let rest = lines_apart a b x y la.1 lb.1 tail in
    (ap (λ (h : ℕ). h ∷ a) head ∙ ap (λ (l : List ℕ). k ∷ l) rest.0, rest.1)

-- with an end inside it is no line
pub ended : (a x : List ℕ) → IsLine (a ++ 10 ∷ x) → ⊥
ended [] x l = l.0 refl
ended (k ∷ a) x l = ended a x l.1

pub ends_at : (n : ℕ) (bytes : List ℕ) → n < length bytes → get_or bytes n 0 ≡ 10 → ((k : ℕ) → k < n → get_or bytes k 0 ≢ 10) → EndsAt n bytes
ends_at n bytes lt is before = record {
  within = lt;
  line = all_at (λ k. k ≢ 10) (take n bytes) (λ k h. subst (λ (x : ℕ). x ≢ 10) (sym (get_or-take n bytes k 0 (omega (arith, length-take n bytes)))) (before k (omega (arith, length-take n bytes))));
  splits = sym (take-append-drop n bytes) ∙ ap (λ (l : List ℕ). take n bytes ++ l) (drop_more bytes n 0 lt ∙ ap (λ (x : ℕ). x ∷ drop (n + 1) bytes) is);
}
