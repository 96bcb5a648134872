-- The message that bytes encode.
-- No public clause reaches this definition: nothing here need be believed.
use Rattle.std.specs.Prelude.{ℕ, Bool, false, ◌||◌, Ok, Err, nat_eq}
use Rattle.scp_quorum.specs.scp_xdr.specs.Reading.{Read}

-- the first word is the discriminant of a message that isn't carried
abbrev pub has_side_word : Read ℕ → Bool
has_side_word (Ok word) = nat_eq word.0 2 || (nat_eq word.0 3 || nat_eq word.0 4)
has_side_word (Err f) = false
