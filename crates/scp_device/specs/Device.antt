-- What readers and writers do.
use Rattle.std.specs.Prelude.{ℕ, ◌^◌, ◌-◌, ◌<◌, ◌≤◌, ◌≡◌, List, [], ◌++◌, Option, Some, None}
use Rattle.scp_types.specs.declared.fault.Fault.{Fault}
use Rattle.scp_types.specs.declared.fault.Fault.TheVariants.{NoMemory, TooLong, Device}

-- a known text loses these first bytes
abbrev pub Loses : Option (List ℕ) → List ℕ → Option (List ℕ) → Type 0
Loses None bytes new = Unit {0}
Loses (Some old) bytes new = (rest : List ℕ) × (old ≡ bytes ++ rest) × (new ≡ Some rest)

-- the text is all of a known one
abbrev pub IsAll : Option (List ℕ) → List ℕ → Type 0
IsAll None text = Unit {0}
IsAll (Some all) text = text ≡ all

-- a known text has ended
abbrev pub HasEnded : Option (List ℕ) → Type 0
HasEnded None = Unit {0}
HasEnded (Some left) = left ≡ []

-- a known text gets these bytes at its end
abbrev pub Gains : Option (List ℕ) → List ℕ → Option (List ℕ) → Type 0
Gains None bytes new = Unit {0}
Gains (Some old) bytes new = new ≡ Some (old ++ bytes)

-- a known text stays
abbrev pub Stays : Option (List ℕ) → Option (List ℕ) → Type 0
Stays None new = Unit {0}
Stays (Some old) new = new ≡ Some old

-- why a script isn't read
abbrev pub IsReadFault : Fault → Type 0
IsReadFault NoMemory = Unit {0}
IsReadFault TooLong = Unit {0}
IsReadFault Device = Unit {0}
IsReadFault fault = ⊥

-- a known text gets a part of these bytes at its end, from the first on
pub record GainsPart (old : Option (List ℕ)) (bytes : List ℕ) (new : Option (List ℕ)) : Type 0 where
  pub part : List ℕ
  pub rest : List ℕ
  pub splits : bytes ≡ part ++ rest
  pub gained : Gains old part new

-- no failure less, and one more at least where they could be counted
abbrev pub Fails : ℕ → ℕ → Type 0
Fails old new = (old ≤ new) × (old < 2 ^ 64 - 1 → old < new)
