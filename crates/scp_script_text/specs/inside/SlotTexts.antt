-- Words and lines of a slot's script as text.
-- No public clause reaches this: nothing here need be believed.
use Rattle.std.specs.Prelude.{ℕ, Bool, true, false, List}
use Rattle.scp_script_text.specs.SlotTexts.{IsTextFor, IsNoTextFor}

-- the answer says whether the text is one line and in hex digits this line
abbrev pub IsChecked : List ℕ → List ℕ → Bool → Type 0
IsChecked text line true = IsTextFor line text
IsChecked text line false = IsNoTextFor line text
