-- Lines that are converted, one by one (this project's profile).
use Rattle.std.specs.Prelude.{ℕ, ◌+◌, ◌≡◌, ◌==◌, ◌⊎◌, Bool, true, false, List, [], ◌∷◌, ◌++◌, codes}
use Rattle.std.specs.List.{slice_split}
use Rattle.scp_convert.specs.scp_prompt.specs.declared.asked.Conversion.{Conversion}
use Rattle.scp_convert.specs.declared.refusal.Refusal.{Refusal}
use Rattle.scp_convert.specs.Words.{IsConverted}
use Rattle.scp_convert.specs.Refusals.{IsNotConverted, IsRefusedLine}
use Rattle.scp_command.specs.declared.converting.RefusedLine.{RefusedLine}

-- the lines of an input
abbrev pub lines_of : List ℕ → List (List ℕ)
lines_of input = slice_split (λ byte. byte == 10) input

-- the line is skipped: it is empty, or begins with `#`
abbrev pub is_skipped : List ℕ → Bool
is_skipped [] = true
is_skipped (byte ∷ bytes) = byte == 35

-- What the line of this number comes to: nothing, if it is skipped; else its text and a line feed, or its refusal.
abbrev pub IsLineConverted : Conversion → Bool → ℕ → List ℕ → List ℕ → List RefusedLine → Type 0
IsLineConverted conversion true place line out refused = (out ≡ []) × (refused ≡ [])
IsLineConverted conversion false place line out refused =
    ((text : List ℕ) × IsConverted conversion place line text × (out ≡ text ++ codes "\n") × (refused ≡ []))
    ⊎ ((refusal : Refusal) × IsNotConverted conversion line refusal × (out ≡ []) × (refused ≡ record { line = place; refusal = refusal } ∷ []))

-- what lines come to, one after another, from the line of this number on
abbrev pub AreConverted : Conversion → ℕ → List (List ℕ) → List ℕ → List RefusedLine → Type 0
AreConverted conversion place [] out refused = (out ≡ []) × (refused ≡ [])
AreConverted conversion place (line ∷ lines) out refused =
    (first rest : List ℕ) × (these others : List RefusedLine) × IsLineConverted conversion (is_skipped line) place line first these
    × AreConverted conversion (place + 1) lines rest others × (out ≡ first ++ rest) × (refused ≡ these ++ others)

-- what is written of them: nothing, if all were asked for or none, and a line is refused
abbrev pub output_of : Bool → List ℕ → List RefusedLine → List ℕ
output_of true out (line ∷ lines) = []
output_of whole out refused = out

-- the refused lines that are reported: all of them, or the first, if all were asked for or none
abbrev pub reported_of : Bool → List RefusedLine → List RefusedLine
reported_of true (line ∷ lines) = line ∷ []
reported_of whole refused = refused

-- the lines that report these refused lines of the input with this name and these bytes, in their order
abbrev pub AreReported : Conversion → List ℕ → List ℕ → List RefusedLine → List ℕ → Type 0
AreReported conversion name input [] told = told ≡ []
AreReported conversion name input (bad ∷ more) told =
    (first rest : List ℕ) × IsRefusedLine conversion.kind conversion.coding name input bad.line bad.refusal first
    × AreReported conversion name input more rest × (told ≡ first ++ rest)

-- the exit status: 1 if a line is refused, else 0
abbrev pub conversion_status : List RefusedLine → ℕ
conversion_status [] = 0
conversion_status (line ∷ lines) = 1
