-- What is found out about a line without taking memory.
-- No public clause reaches this: nothing here need be believed.
use Rattle.std.specs.Prelude.{◌≡◌, ℕ, true, List, ◌++◌, option_to_list, IsSomeAnd}
use Rattle.scp_script.specs.declared.command.Command.{Command}
use Rattle.scp_script.specs.declared.known.Known.{Known}
use Rattle.scp_script.specs.declared.judging.Place.{Place}
use Rattle.scp_script.specs.declared.judging.Place.TheVariants as place
use Rattle.scp_script.specs.Words.{words_of}
use Rattle.scp_script.specs.Script.{command_in, is_set, Admits}
use Rattle.scp_script.specs.Reading.{Knows, Stands}

-- The finding on a line after these commands is right. Either the line may follow them and what is known now includes it, or it is bad
-- there, or it is a `set` line.
abbrev pub IsPlace : List Command → List ℕ → Place → Known → Type 0
IsPlace before line place.Stands new = Stands before line × Knows new (before ++ option_to_list (command_in (words_of line)))
IsPlace before line place.Bad new = ¬ (Stands before line)
IsPlace before line place.Set new = is_set (words_of line) ≡ true

-- the same for a line that is given by its words
abbrev pub IsPlaceOfWords : List Command → List (List ℕ) → Place → Known → Type 0
IsPlaceOfWords before words place.Stands new = IsSomeAnd (command_in words) (Admits before) × Knows new (before ++ option_to_list (command_in words))
IsPlaceOfWords before words place.Bad new = ¬ (IsSomeAnd (command_in words) (Admits before))
IsPlaceOfWords before words place.Set new = is_set words ≡ true
