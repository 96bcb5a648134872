-- Words and their ends.
use Rattle.std.proofs.Common.{◌≡◌, ◌≢◌, ◌<◌, ◌≤◌, ◌+◌, ◌/◌, ◌%◌, ◌^◌, ℕ, zero, suc, Bool, true, false, not, cond, List, [], ◌∷◌, ◌++◌, length, get_or, take, drop, Option, Some, None, refl, sym, ◌∙◌, ap, subst, arith, take-append-drop}
use Rattle.std.specs.Prelude.{slice_index, nat_eq, nat_lt, position, IfSome, IfNone}
use Rattle.std.specs.List.{prefix_len}
use Rattle.std.proofs.lemmas.Bool.Decides.{nat_tests}
use Rattle.std.proofs.lemmas.List.Sums.{prefix_len_passes, prefix_len_stops}
use Rattle.std.specs.List.{AllByRecursion}
use Rattle.std.specs.Int.{IsInRange}
use Rattle.std.specs.Fmt.{decimal}
use Rattle.std.proofs.lemmas.Fmt.{decimal_is_IsNumeral}
use Rattle.std.proofs.lemmas.Str.Parse.{digit_at}
use Rattle.std.proofs.lemmas.List.{drop_more, get_or-take, length-take}
use Rattle.hex.specs.Hex.{encode_lower, encode_with, lower_digits, IsBytes}
use Rattle.scp_live_head.specs.inside.Words.{Without, CutsAt}

-- what holds of each place holds of all
all_at : (P : ℕ → Type 0) (xs : List ℕ) → ((k : ℕ) → k < length xs → P (get_or xs k 0)) → AllByRecursion P xs
all_at P [] h = tt
all_at P (x ∷ xs) h = (h 0 (omega arith), all_at P xs (λ k lt. h (suc k) (omega arith)))

module _ (mark : ℕ) where
  -- two words with their ends, and what is behind them, are the same if all of it is
  pub words_apart : (a b x y : List ℕ) → Without mark a → Without mark b → a ++ mark ∷ x ≡ b ++ mark ∷ y → (a ≡ b) × (x ≡ y)
  words_apart [] [] x y la lb e = (refl, cc)
  words_apart [] (k ∷ b) x y la lb e = absurd (lb.0 (let h : k ≡ mark = cc in h))
  words_apart (j ∷ a) [] x y la lb e = absurd (la.0 (let h : j ≡ mark = cc in h))
  words_apart (j ∷ a) (k ∷ b) x y la lb e =
      let head : j ≡ k = cc in
      let tail : a ++ mark ∷ x ≡ b ++ mark ∷ y = cc in
      let rest = words_apart a b x y la.1 lb.1 tail in
      (ap (λ (h : ℕ). h ∷ a) head ∙ ap (λ (l : List ℕ). k ∷ l) rest.0, rest.1)

  -- with an end inside it is no word
  pub no_word : (a x : List ℕ) → Without mark (a ++ mark ∷ x) → ⊥
  no_word [] x l = l.0 refl
  no_word (k ∷ a) x l = no_word a x l.1

  pub without_both : (a b : List ℕ) → Without mark a → Without mark b → Without mark (a ++ b)
  without_both [] b l k = k
  without_both (j ∷ a) b l k = (l.0, without_both a b l.1 k)

  pub cuts_at : (n : ℕ) (bytes : List ℕ) → n < length bytes → get_or bytes n 0 ≡ mark → ((k : ℕ) → k < n → get_or bytes k 0 ≢ mark) → CutsAt mark n bytes
  cuts_at n bytes lt is before = record {
    within = lt;
    front = all_at (λ k. k ≢ mark) (take n bytes) (λ k h. subst (λ (x : ℕ). x ≢ mark) (sym (get_or-take n bytes k 0 (omega (arith, length-take n bytes)))) (before k (omega (arith, length-take n bytes))));
    splits = sym (take-append-drop n bytes) ∙ ap (λ (l : List ℕ). take n bytes ++ l) (drop_more bytes n 0 lt ∙ ap (λ (x : ℕ). x ∷ drop (n + 1) bytes) is);
  }

  pub none_at : (bytes : List ℕ) → ((k : ℕ) → k < length bytes → get_or bytes k 0 ≢ mark) → Without mark bytes
  none_at bytes h = all_at (λ k. k ≢ mark) bytes h

  digit_apart : mark < 48 → (x : ℕ) → 48 ≤ x → x ≢ mark
  digit_apart small x le e = absurd (omega (arith, small, le, e))

  -- a number has digits alone
  pub number_without : mark < 48 → (n : ℕ) → n < 2 ^ 64 → Without mark (decimal n)
  number_without small n lt = all_at (λ k. k ≢ mark) (decimal n) (λ i within. let r : IsInRange 48 57 (get_or (decimal n) i 0) = digit_at (decimal n) i (decimal_is_IsNumeral n lt).0.1 within in digit_apart small (get_or (decimal n) i 0) r.0)

  -- and so have bytes
  pub bytes_without : mark < 48 → (bytes : List ℕ) → IsBytes bytes → Without mark (encode_lower bytes)
  unfolding encode_with
  bytes_without small [] are = tt
  bytes_without small (b ∷ bytes) are =
      let byte : b < 256 = are 0 in
      (digit_apart small _ (digit_above (b / 16) (omega (arith, byte))), (digit_apart small _ (digit_above (b % 16) (omega (arith, byte))), bytes_without small bytes (λ i. are (suc i))))
    where
      digit_above : (n : ℕ) → n < 16 → 48 ≤ slice_index lower_digits n
      digit_above zero h = omega arith
      digit_above (suc zero) h = omega arith
      digit_above (suc (suc zero)) h = omega arith
      digit_above (suc (suc (suc zero))) h = omega arith
      digit_above (suc (suc (suc (suc zero)))) h = omega arith
      digit_above (suc (suc (suc (suc (suc zero))))) h = omega arith
      digit_above (suc (suc (suc (suc (suc (suc zero)))))) h = omega arith
      digit_above (suc (suc (suc (suc (suc (suc (suc zero))))))) h = omega arith
      digit_above (suc (suc (suc (suc (suc (suc (suc (suc zero)))))))) h = omega arith
      digit_above (suc (suc (suc (suc (suc (suc (suc (suc (suc zero))))))))) h = omega arith
      digit_above (suc (suc (suc (suc (suc (suc (suc (suc (suc (suc zero)))))))))) h = omega arith
      digit_above (suc (suc (suc (suc (suc (suc (suc (suc (suc (suc (suc zero))))))))))) h = omega arith
      digit_above (suc (suc (suc (suc (suc (suc (suc (suc (suc (suc (suc (suc zero)))))))))))) h = omega arith
      digit_above (suc (suc (suc (suc (suc (suc (suc (suc (suc (suc (suc (suc (suc zero))))))))))))) h = omega arith
      digit_above (suc (suc (suc (suc (suc (suc (suc (suc (suc (suc (suc (suc (suc (suc zero)))))))))))))) h = omega arith
      digit_above (suc (suc (suc (suc (suc (suc (suc (suc (suc (suc (suc (suc (suc (suc (suc zero))))))))))))))) h = omega arith
      digit_above (suc (suc (suc (suc (suc (suc (suc (suc (suc (suc (suc (suc (suc (suc (suc (suc n)))))))))))))))) h = absurd (omega arith)

-- what the place of a mark says
passed : (mark k : ℕ) → not (nat_eq k mark) ≡ true → k ≢ mark
passed mark k passes e = by (nat_eq k mark) refl passes
  where
    by : (b : Bool) → nat_eq k mark ≡ b → not b ≡ true → ⊥
    by true same never = cc
    by false apart passes = let t : nat_eq k mark ≡ false = apart in absurd (grind (arith, nat_tests, t, e))

stopped : (mark k : ℕ) → not (nat_eq k mark) ≡ false → k ≡ mark
stopped mark k stops = by (nat_eq k mark) refl stops
  where
    by : (b : Bool) → nat_eq k mark ≡ b → not b ≡ false → k ≡ mark
    by true same stops = let t : nat_eq k mark ≡ true = same in grind (arith, nat_tests, t)
    by false apart stops = absurd cc

module _ (mark : ℕ) (bytes : List ℕ) where
  abbrev first : ℕ
  first = prefix_len (λ k. not (nat_eq k mark)) bytes

  before : (k : ℕ) → k < first → get_or bytes k 0 ≢ mark
  before k lt = passed mark (get_or bytes k 0) (prefix_len_passes (λ k. not (nat_eq k mark)) bytes k 0 lt)

  here : first < length bytes → CutsAt mark first bytes
  here lt = cuts_at mark first bytes lt (stopped mark (get_or bytes first 0) (prefix_len_stops (λ k. not (nat_eq k mark)) bytes 0 lt)) before

  nowhere : length bytes ≤ first → Without mark bytes
  nowhere le = none_at mark bytes (λ k lt. before k (omega (arith, lt, le)))

  pub some_cut : (o : Option ℕ) → o ≡ position (λ k. nat_eq k mark) bytes → IfSome o (λ n. CutsAt mark n bytes)
  some_cut o is = subst (λ (r : Option ℕ). IfSome r (λ n. CutsAt mark n bytes)) (sym is) (by (nat_lt first (length bytes)) refl)
    where
      by : (b : Bool) → nat_lt first (length bytes) ≡ b → IfSome (cond b (Some first) None) (λ n. CutsAt mark n bytes)
      by true lt = here (let t : nat_lt first (length bytes) ≡ true = lt in grind (arith, nat_tests, t))
      by false ge = tt

  pub none_cut : (o : Option ℕ) → o ≡ position (λ k. nat_eq k mark) bytes → IfNone o (Without mark bytes)
  none_cut o is = subst (λ (r : Option ℕ). IfNone r (Without mark bytes)) (sym is) (by (nat_lt first (length bytes)) refl)
    where
      by : (b : Bool) → nat_lt first (length bytes) ≡ b → IfNone (cond b (Some first) None) (Without mark bytes)
      by true lt = tt
      by false ge = nowhere (let t : nat_lt first (length bytes) ≡ false = ge in grind (arith, nat_tests, t))
