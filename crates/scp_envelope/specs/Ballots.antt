-- How ballots and values are compared (the SCP draft; values by their bytes in this project's profile).
use Rattle.std.specs.Prelude.{◌≡◌, ◌≢◌, ℕ, List}
use Rattle.std.specs.Ordering.{nat_cmp, ordering_then}
use Rattle.std.specs.declared.cmp.Ordering.{Ordering}
use Rattle.std.specs.declared.cmp.Ordering.TheVariants.{Less, Greater}
use Rattle.std.specs.Cmp.Lexicographic.{slice_cmp}
use Rattle.scp_xdr.specs.scp_types.specs.declared.ballot.Ballot.{Ballot}

-- values are compared as bytes; a proper prefix is less than the whole
abbrev pub value_cmp : List ℕ → List ℕ → Ordering
value_cmp v w = slice_cmp nat_cmp v w

-- ballots are compared by counter, then by value
abbrev pub ballot_cmp : Ballot → Ballot → Ordering
ballot_cmp a b = ordering_then (nat_cmp a.counter b.counter) (value_cmp a.value b.value)

-- one ballot is less than another by that comparison
abbrev pub IsLess : Ballot → Ballot → Type 0
IsLess a b = ballot_cmp a b ≡ Less

-- less than the other, or equal
abbrev pub IsAtMost : Ballot → Ballot → Type 0
IsAtMost a b = ballot_cmp a b ≢ Greater

-- compatible means equal values
abbrev pub IsCompatible : Ballot → Ballot → Type 0
IsCompatible a b = a.value ≡ b.value
