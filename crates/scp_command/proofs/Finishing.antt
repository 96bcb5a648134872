-- Which status tells that the output failed.
use Rattle.std.proofs.Common.{◌≡◌, ◌≢◌, ◌⊎◌, inl, inr, ℕ, Bool, true, false, List, [], ◌∷◌, refl, nat_eq}
use Rattle.std.proofs.lemmas.Bool.{eqb-true, eqb-false}
use Rattle.scp_command.specs.Serving.{status_of}

-- a status that is that of an answer, unless it is 3, is 3 where it is neither of the two that answers have
pub is_three : (status : ℕ) (notices : List ℕ) → (status ≢ 3 → status ≡ status_of notices) → status ≢ 0 → status ≢ 4 → status ≡ 3
is_three status notices h zero four = by_test (nat_eq status 3) refl
  where
    neither : (told : List ℕ) → status ≡ status_of told → ⊥
    neither [] e = zero e
    neither (byte ∷ bytes) e = four e

    by_test : (b : Bool) → nat_eq status 3 ≡ b → status ≡ 3
    by_test true e = eqb-true status 3 e
    by_test false e = absurd (neither notices (h (eqb-false status 3 e)))

-- a status is 3 or it isn't
pub three_or_not : (status : ℕ) → (status ≡ 3) ⊎ (status ≢ 3)
three_or_not status = by_test (nat_eq status 3) refl
  where
    by_test : (b : Bool) → nat_eq status 3 ≡ b → (status ≡ 3) ⊎ (status ≢ 3)
    by_test true e = inl (eqb-true status 3 e)
    by_test false e = inr (eqb-false status 3 e)
