-- What is shown on one stream.
-- No public clause reaches these definitions: nothing here need be believed.
use Rattle.std.specs.Prelude.{ℕ, ◌≡◌, List, ◌++◌, Some, None, string_bytes}
use Rattle.scp_notices.specs.scp_line.specs.Outcome.{fault_line}
use Rattle.scp_notices.specs.scp_line.specs.declared.playing.PlayFault.{PlayFault}
use Rattle.scp_draw.specs.scp_trace.specs.declared.depth.Depth.{Depth}
use Rattle.scp_draw.specs.scp_trace.specs.declared.playing.Traced.{Traced}
use Rattle.scp_convert.specs.scp_prompt.specs.declared.asked.Task.{Task}
use Rattle.scp_command.specs.declared.plain.Telling.{Telling}
use Rattle.scp_command.specs.declared.plain.Telling.TheVariants.{Whole, Part}
use Rattle.scp_command.specs.Serving.{IsPlainTrace, IsPartTrace, IsPlain, IsPlainUpTo}

-- what is shown of a script, to its end or up to a fault
abbrev pub IsTelling : Task → List ℕ → Telling → Type 0
IsTelling task script (Whole text) = IsPlain task script text.items
IsTelling task script (Part text) = IsPlainUpTo task script text.items

-- what is shown of a run, at this depth, to its end or up to a fault
abbrev pub IsRunTelling : Depth → List ℕ → Telling → Type 0
IsRunTelling depth script (Whole text) = IsPlainTrace depth script text.items
IsRunTelling depth script (Part text) = IsPartTrace depth script text.items

-- what was shown of a run, with the line of the fault that ended it
abbrev pub IsTellingOf : Traced → Telling → Type 0
IsTellingOf told (Whole text) = (told.fault ≡ None) × (text.items ≡ string_bytes told.text)
IsTellingOf told (Part text) = (fault : PlayFault) × (told.fault ≡ Some fault) × (text.items ≡ string_bytes told.text ++ fault_line fault.node fault.fault)
