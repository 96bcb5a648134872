-- What lines come to (this project's profile).
use Rattle.std.specs.Prelude.{ℕ, List, string_bytes}
use Rattle.scp_prompt.specs.declared.asked.Conversion.{Conversion}
use Rattle.scp_convert.specs.declared.line.Outcome.{Outcome}
use Rattle.scp_convert.specs.declared.line.Outcome.TheVariants.{Text, Refused}
use Rattle.scp_convert.specs.Words.{IsConverted}
use Rattle.scp_convert.specs.Refusals.{IsNotConverted}

-- what the line of this number comes to: its text, or why it isn't converted
abbrev pub IsOutcome : Conversion → ℕ → List ℕ → Outcome → Type 0
IsOutcome conversion place line (Text text) = IsConverted conversion place line (string_bytes text)
IsOutcome conversion place line (Refused refusal) = IsNotConverted conversion line refusal
