-- One line more.
-- No public clause reaches this definition: nothing here need be believed.
use Rattle.std.specs.Prelude.{ℕ, ◌≡◌, List, ◌++◌}
use Rattle.scp_convert.specs.scp_prompt.specs.declared.asked.Conversion.{Conversion}
use Rattle.scp_command.specs.declared.converting.RefusedLine.{RefusedLine}
use Rattle.scp_command.specs.Converting.{IsLineConverted, is_skipped}

-- what the line of this number comes to was added
abbrev pub AddsLine : Conversion → ℕ → List ℕ → List ℕ → List RefusedLine → List ℕ → List RefusedLine → Type 0
AddsLine conversion place line old olds new news =
    (text : List ℕ) × (these : List RefusedLine) × IsLineConverted conversion (is_skipped line) place line text these × (new ≡ old ++ text) × (news ≡ olds ++ these)
