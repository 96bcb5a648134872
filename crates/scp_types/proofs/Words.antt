-- Bytes that are compared eight at a time.
use Rattle.std.specs.Cmp.Lexicographic.{pointwise}
use Rattle.std.proofs.Common.{◌≡◌, ◌≢◌, ℕ, ◌+◌, ◌-◌, ◌<◌, ◌≤◌, Bool, true, false, ◌&&◌, List, length, nat_eq, slice_index, MatchBool, arith, refl, sym, ◌∙◌, subst, true≢false, ⊎_elim, ext_get_or}
use Rattle.std.proofs.lemmas.Bool.{cases_lt}
use Rattle.std.proofs.lemmas.Bool.Decides.{same_from_decides}
use Rattle.std.proofs.lemmas.Slice.Eq.{bytes_eq-Decides}

module _ (xs ys : List ℕ) where
  -- the n bytes from i on are the same
  abbrev pub Alike : ℕ → ℕ → Type 0
  Alike i n = (k : ℕ) → k < n → slice_index xs (i + k) ≡ slice_index ys (i + k)

  -- the first i bytes are the same
  abbrev pub AlikeTo : ℕ → Type 0
  AlikeTo i = (k : ℕ) → k < i → slice_index xs k ≡ slice_index ys k

  -- n bytes more, which begin no later than where the bytes that are known to be the same end
  pub further : (i j n : ℕ) → i ≤ j → AlikeTo j → Alike i n → AlikeTo (i + n)
  further i j n within before here = λ k l. ⊎_elim (before k)
      (λ past.
      let at : i + (k - i) ≡ k = omega arith in
      subst (λ m. slice_index xs m ≡ slice_index ys m) at (here (k - i) (omega arith)))
      (cases_lt k j)

  pub all_alike : length xs ≡ length ys → AlikeTo (length xs) → true ≡ pointwise nat_eq xs ys
  all_alike e h = same_from_decides true _ ((λ _. ext_get_or 0 xs ys e h), (λ _. refl)) (bytes_eq-Decides xs ys)

  pub unlike : xs ≢ ys → false ≡ pointwise nat_eq xs ys
  unlike n = same_from_decides false _ ((λ e. absurd (true≢false (sym e))), (λ same. absurd (n same))) (bytes_eq-Decides xs ys)

  -- the last eight bytes decide, where all before them are the same
  pub by_last : (r : Bool) (i j : ℕ) → length xs ≡ length ys → i + 8 ≡ length xs → i ≤ j → AlikeTo j → MatchBool r (Alike i 8) (xs ≢ ys) → r ≡ pointwise nat_eq xs ys
  by_last true i j e last within before h = all_alike e (subst AlikeTo last (further i j 8 within before h))
  by_last false i j e last within before h = unlike h

  pub by_four : (p q r s : Bool) → length xs ≡ 32 → length ys ≡ 32
      → MatchBool p (Alike 0 8) (xs ≢ ys) → MatchBool q (Alike 8 8) (xs ≢ ys) → MatchBool r (Alike 16 8) (xs ≢ ys) → MatchBool s (Alike 24 8) (xs ≢ ys)
      → (((p && q) && r) && s) ≡ pointwise nat_eq xs ys
  by_four true true true s mine theirs h i j k =
      by_last s 24 24 (mine ∙ sym theirs) (sym mine) (omega arith) (further 16 16 8 (omega arith) (further 8 8 8 (omega arith) (further 0 0 8 (omega arith) (λ k l. absurd (omega arith)) h) i) j) k
  by_four true true false s mine theirs h i j k = unlike j
  by_four true false r s mine theirs h i j k = unlike i
  by_four false q r s mine theirs h i j k = unlike h
