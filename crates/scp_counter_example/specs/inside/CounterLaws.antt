-- The laws of the counter.
use Rattle.std.specs.Prelude.{ℕ, ◌≡◌, ◌≢◌, ◌≤◌, nat_eq, List, [], ◌∷◌, length, take, if◌then◌else◌, Bool, true, false, cond, Option, Some, None, All, refl}
use Rattle.std.proofs.lemmas.Bool.{leb-true, eqb-true}
use Rattle.std.proofs.lemmas.List.Elements.{All-head, All-tail}
use Rattle.std.proofs.Common.{subst, sym}
use Rattle.std.specs.Int.{from_be_bytes, w64}
use Rattle.std.specs.Ordering.{nat_cmp, is_lt}
use Rattle.std.specs.Cmp.Lexicographic.{slice_cmp}
use Rattle.scp_turn.specs.scp_driver.specs.declared.driver.Level.TheVariants.{FullyValidated, Invalid}
use Rattle.scp_counter_example.specs.inside.Counter.{number_in, level_of, lesser, least_from, least, raised, is_below, count_in}

-- the value is a number
abbrev Full : List ℕ → Type 0
Full v = level_of (number_in v) ≡ FullyValidated

-- of two numbers either one is
full_cond : (b : Bool) (v w : List ℕ) → Full v → Full w → Full (cond b w v)
full_cond true v w f g = g
full_cond false v w f g = f

-- the least of numbers, from a first one on, is one
full_from : (v : List ℕ) (ws : List (List ℕ)) → Full v → All Full ws → Full (least_from v ws)
full_from v [] f all = f
full_from v (w ∷ ws) f all = full_from (lesser v w) ws (full_cond (is_lt (slice_cmp nat_cmp w v)) v w f (All-head Full w ws all)) (All-tail Full w ws all)

-- the least of some numbers is a number
pub least_full : (vs : List (List ℕ)) → vs ≢ [] → All (λ v. level_of (number_in v) ≡ FullyValidated) vs → level_of (number_in (least vs)) ≡ FullyValidated
least_full [] some all = absurd (some refl)
least_full (v ∷ vs) some all = full_from v vs (All-head Full v vs all) (All-tail Full v vs all)

-- what has eight bytes is short, and nothing else is a number
short_if : (v : List ℕ) (b : Bool) → nat_eq (length v) 8 ≡ b → level_of (if b then Some (from_be_bytes w64 (take 8 v)) else None) ≢ Invalid → length v ≤ 4096
short_if v true e valid = subst (λ (n : ℕ). n ≤ 4096) (sym (eqb-true (length v) 8 e)) (leb-true 8 4096 refl)
short_if v false e valid = absurd (valid refl)

-- a number has eight bytes
pub number_is_short : (v : List ℕ) → level_of (number_in v) ≢ Invalid → length v ≤ 4096
unfolding number_in
number_is_short v valid = short_if v (nat_eq (length v) 8) refl valid

-- a number below the counter leaves it
pub below_stays : (count : ℕ) (found : Option ℕ) → is_below count found ≡ true → raised count found ≡ count
below_stays count (Some n) below = subst (λ (b : Bool). cond b count n ≡ count) (sym below) refl
below_stays count None below = refl

-- no bytes say the count 0
pub none_say_zero : count_in [] ≡ 0
unfolding number_in
none_say_zero = refl
