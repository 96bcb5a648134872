-- A driver whose values are one byte.
use Rattle.std.specs.Prelude.{◌≡◌, ◌≢◌, ◌≤◌, ℕ, ◌-◌, ◌%◌, nat_le, List, [], ◌∷◌, length, Bool, true, false, Option, Some, None, All, IfSome, refl}
use Rattle.std.proofs.lemmas.Bool.{leb-true}
use Rattle.std.proofs.lemmas.List.Elements.{All-head}
use Rattle.scp_nominate.specs.scp_driver.specs.declared.driver.Level.{Level}
use Rattle.scp_nominate.specs.scp_driver.specs.declared.driver.Level.TheVariants.{FullyValidated, MaybeValid, Invalid}

-- it may be valid if it is within the limit
abbrev pub level_within : Bool → Level
level_within true = MaybeValid
level_within false = Invalid

-- one byte is fully validated; more may be valid, up to 4,096; none, and more than 4,096, are invalid
abbrev pub byte_level : List ℕ → Level
byte_level [] = Invalid
byte_level (b ∷ []) = FullyValidated
byte_level (b ∷ c ∷ bs) = level_within (nat_le (length (b ∷ c ∷ bs)) 4096)

-- the first byte
abbrev pub first_byte : List ℕ → Option (List ℕ)
first_byte [] = None
first_byte (b ∷ bs) = Some (b ∷ [])

-- the first value
abbrev pub first_value : List (List ℕ) → List ℕ
first_value [] = []
first_value (v ∷ vs) = v

-- rounds lead in turn, whatever the slot
abbrev pub turn : ℕ → ℕ → ℕ
turn round n = (round - 1) % n

pub first_byte_full : (v : List ℕ) → IfSome (first_byte v) (λ found. byte_level found ≡ FullyValidated)
first_byte_full [] = tt
first_byte_full (b ∷ bs) = refl

pub first_value_full : (vs : List (List ℕ)) → vs ≢ [] → All (λ v. byte_level v ≡ FullyValidated) vs → byte_level (first_value vs) ≡ FullyValidated
first_value_full [] some all = absurd (some refl)
first_value_full (v ∷ vs) some all = All-head (λ v. byte_level v ≡ FullyValidated) v vs all

short_within : (n : ℕ) (b : Bool) → nat_le n 4096 ≡ b → level_within b ≢ Invalid → n ≤ 4096
short_within n true e valid = leb-true n 4096 e
short_within n false e valid = absurd (valid refl)

pub byte_is_short : (v : List ℕ) → byte_level v ≢ Invalid → length v ≤ 4096
byte_is_short [] valid = absurd (valid refl)
byte_is_short (b ∷ []) valid = leb-true 1 4096 refl
byte_is_short (b ∷ c ∷ bs) valid = short_within (length (b ∷ c ∷ bs)) (nat_le (length (b ∷ c ∷ bs)) 4096) refl valid
