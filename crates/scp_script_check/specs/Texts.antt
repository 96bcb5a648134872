-- The lines that report what is wrong with a script.
use Rattle.std.specs.Prelude.{◌≡◌, ℕ, List, ◌++◌, flat_map, codes}
use Rattle.std.specs.Fmt.{decimal}
use Rattle.scp_script_text.specs.scp_text.specs.Sets.{node_text}
use Rattle.scp_script.specs.declared.command.Command.{Command}
use Rattle.scp_script_check.specs.Lines.{IsSaid}
use Rattle.scp_script_check.specs.Warnings.{AreWarnings}
use Rattle.scp_script_check.specs.declared.warning.Warning.{Warning}
use Rattle.scp_script_check.specs.declared.warning.Warning.TheVariants.{Malformed, TooLong, Driven, BadValue, Unled, Unsettled, Unopened, Unreported}

-- the line of a warning
abbrev pub warning_text : Warning → List ℕ
warning_text (Malformed line place) = codes "warn line " ++ decimal line ++ codes " malformed at " ++ decimal place ++ codes "\n"
warning_text (TooLong line) = codes "warn line " ++ decimal line ++ codes " too-long\n"
warning_text (Driven line from to) = codes "warn line " ++ decimal line ++ codes " driven " ++ decimal from ++ codes " " ++ decimal to ++ codes "\n"
warning_text (BadValue line) = codes "warn line " ++ decimal line ++ codes " bad-value\n"
warning_text (Unled line slot leader) = codes "warn line " ++ decimal line ++ codes " unled " ++ decimal slot ++ codes " leader " ++ node_text leader ++ codes "\n"
warning_text (Unsettled line) = codes "warn line " ++ decimal line ++ codes " unsettled\n"
warning_text (Unopened from to) = codes "warn unopened " ++ decimal from ++ codes " " ++ decimal to ++ codes "\n"
warning_text Unreported = codes "warn unreported\n"

-- the lines of the warnings
abbrev pub warnings_text : List Warning → List ℕ
warnings_text warnings = flat_map warning_text warnings

-- the report on a script without a bad line: the lines of its warnings, and `ok`
abbrev pub IsLinted : List ℕ → List ℕ → Type 0
IsLinted text out =
    (commands : List Command) × (lines : List ℕ) × (warnings : List Warning) × IsSaid text commands lines × AreWarnings commands lines warnings × (out ≡ warnings_text warnings ++ codes "ok\n")
