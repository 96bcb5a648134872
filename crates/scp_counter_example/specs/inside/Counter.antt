-- A counter that only grows: what its values are, and what they make of it.
use Rattle.std.specs.Prelude.{ℕ, List, [], ◌∷◌, Bool, true, cond, if◌then◌else◌, Option, Some, None, unwrap_or, nat_eq, nat_lt, length, take, fold}
use Rattle.std.specs.Ordering.{nat_cmp, is_lt}
use Rattle.std.specs.Int.{from_be_bytes, to_be_bytes, w64}
use Rattle.std.specs.Cmp.Lexicographic.{slice_cmp}
use Rattle.scp_turn.specs.scp_driver.specs.Driver.{Says}
use Rattle.scp_turn.specs.scp_driver.specs.Kv.{leader_place}
use Rattle.scp_turn.specs.scp_driver.specs.declared.driver.Level.{Level}
use Rattle.scp_turn.specs.scp_driver.specs.declared.driver.Level.TheVariants.{FullyValidated, Invalid}
use Rattle.scp_counter_example.specs.declared.counter.Counter.{Counter}

-- the number that eight bytes spell, the highest first; other bytes spell none
unfoldable pub number_in : List ℕ → Option ℕ
number_in bytes = if nat_eq (length bytes) 8 then Some (from_be_bytes w64 (take 8 bytes)) else None

-- a number is fully validated, anything else is invalid
abbrev pub level_of : Option ℕ → Level
level_of (Some n) = FullyValidated
level_of None = Invalid

-- the lesser of two values by bytes
abbrev pub lesser : List ℕ → List ℕ → List ℕ
lesser v w = cond (is_lt (slice_cmp nat_cmp w v)) w v

-- the least of v and the values
abbrev pub least_from : List ℕ → List (List ℕ) → List ℕ
least_from v values = fold lesser v values

-- the least value by bytes: of numbers the least
abbrev pub least : List (List ℕ) → List ℕ
least [] = []
least (v ∷ vs) = least_from v vs

-- what the counter says of values
abbrev pub counter_says : Says Counter
counter_says = record {
  level = λ counter slot value. level_of (number_in value);
  extracted = λ counter slot value. None;
  combined = λ counter slot values. least values;
  place = λ counter slot round n. leader_place slot round n;
}

-- the counter after a number: that number, unless it is below it
abbrev pub raised : ℕ → Option ℕ → ℕ
raised count (Some n) = cond (nat_lt n count) count n
raised count None = count

-- the counter after a value
abbrev pub after_number : ℕ → List ℕ → ℕ
after_number count value = raised count (number_in value)

-- a number below the counter is refused, and so is what is no number
abbrev pub is_below : ℕ → Option ℕ → Bool
is_below count (Some n) = nat_lt n count
is_below count None = true

-- the bytes of a count: eight, the highest first
abbrev pub bytes_of : ℕ → List ℕ
bytes_of count = to_be_bytes w64 count

-- the count that bytes say; 0 where they say none
abbrev pub count_in : List ℕ → ℕ
count_in bytes = unwrap_or (number_in bytes) 0
