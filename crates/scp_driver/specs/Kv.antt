-- The driver of the product (this project's profile).
use Rattle.std.specs.Prelude.{◌≡◌, ◌≢◌, ◌<◌, ℕ, ◌+◌, ◌-◌, ◌*◌, ◌%◌, List, [], ◌∷◌, Bool, true, false, is_some, cond, None, Contains}
use Rattle.std.specs.declared.cmp.Ordering.TheVariants.{Less}
use Rattle.std.specs.Ordering.{nat_cmp, is_lt}
use Rattle.std.specs.Cmp.Lexicographic.{slice_cmp}
use Rattle.scp_kv.specs.Op.{ops_in}
use Rattle.scp_driver.specs.Driver.{Says}
use Rattle.scp_driver.specs.declared.driver.Level.{Level}
use Rattle.scp_driver.specs.declared.kv_driver.KvDriver.{KvDriver}
use Rattle.scp_driver.specs.declared.driver.Level.TheVariants.{FullyValidated, Invalid}

-- fully validated if it is an operation list, else invalid
abbrev pub level_if : Bool → Level
level_if true = FullyValidated
level_if false = Invalid

-- an operation list is fully validated, anything else is invalid (this project's profile)
abbrev pub kv_level : List ℕ → Level
kv_level v = level_if (is_some (ops_in v))

-- the greater of two values by bytes
abbrev pub greater : List ℕ → List ℕ → List ℕ
greater v w = cond (is_lt (slice_cmp nat_cmp v w)) w v

-- the greatest of v and the values
abbrev pub greatest_from : List ℕ → List (List ℕ) → List ℕ
greatest_from v [] = v
greatest_from v (w ∷ ws) = greatest_from (greater v w) ws

-- the greatest value by bytes
abbrev pub greatest : List (List ℕ) → List ℕ
greatest [] = []
greatest (v ∷ vs) = greatest_from v vs

-- the place (slot + round - 2) mod n over the integers, for a round and an n of at least 1; n is added so that nothing is negative
abbrev pub leader_place : ℕ → ℕ → ℕ → ℕ
leader_place slot round n = (slot + round + n - 2) % n

-- what the product's application says about values; it takes nothing from an invalid one
abbrev pub kv_says : Says KvDriver
kv_says = record {
  level = λ driver slot value. kv_level value;
  extracted = λ driver slot value. None;
  combined = λ driver slot values. greatest values;
  place = λ driver slot round n. leader_place slot round n;
}

-- v is one of the values, and none is greater
pub record IsGreatest (vs : List (List ℕ)) (v : List ℕ) : Type 0 where
  pub among : Contains vs v
  pub none_greater : (w : List ℕ) → Contains vs w → slice_cmp nat_cmp v w ≢ Less

-- one of n places, equal to slot + round - 2 up to multiples of n: there are i and j with place + 2 + i n = slot + round + j n
pub record IsPlace (slot round n place : ℕ) : Type 0 where
  pub below : place < n
  pub turns : (i : ℕ) × (j : ℕ) × (place + 2 + i * n ≡ slot + round + j * n)
