-- Lines that give quorum sets, and which of them is bad (this project's profile).
use Rattle.std.specs.Prelude.{ℕ, ◌≡◌, ◌-◌, List, Option, Some, None}
use Rattle.std.specs.Str.{IsUtf8}
use Rattle.scp_sim_findings.specs.declared.running.BadSets.{BadSets}
use Rattle.scp_sim_findings.specs.declared.running.BadSets.TheVariants as bad
use Rattle.scp_sim_findings.specs.declared.running.ToldFault.{ToldFault}
use Rattle.scp_sim_findings.specs.declared.running.ToldFault.TheVariants as told
use Rattle.scp_notices.specs.scp_script_text.specs.declared.script.Form.TheVariants.{Hex}
use Rattle.scp_notices.specs.scp_script_text.specs.declared.script.Kind.TheVariants.{Nodes as OfNodes}
use Rattle.scp_notices.specs.scp_script_text.specs.Scripts.{IsScriptOf, IsRefusedLine}
use Rattle.scp_sim.specs.declared.world.SimFault.TheVariants as sim
use Rattle.scp_script_hints.specs.scp_device.specs.declared.bad.ReadFault.TheVariants as reads

-- Why lines can't be written in digits. Memory ran out; or this is the first word that is refused; or it is line 1, because the lines in
-- digits are no UTF-8.
abbrev pub HaveNoDigits : List ℕ → BadSets → Type 0
HaveNoDigits text bad.NoMemory = Unit {0}
HaveNoDigits text (bad.Word refusal) = IsRefusedLine OfNodes Hex text refusal
HaveNoDigits text (bad.Line line) = (digits : List ℕ) × IsScriptOf OfNodes Hex text digits × (¬ (IsUtf8 digits)) × (line ≡ 1)

-- What is bad among the lines that give quorum sets, if that is why nothing is reported. Lines are counted from 1. In the script, one more
-- line comes before them.
abbrev pub bad_sets_of : ToldFault → Option BadSets
bad_sets_of told.NoMemory = None
bad_sets_of (told.Sim sim.NoMemory) = None
bad_sets_of (told.Sim (sim.Sets reads.NoMemory)) = None
bad_sets_of (told.Sim (sim.Sets (reads.Bad refusal))) = Some (bad.Word (record { line = refusal.line - 1; bad = refusal.bad }))
bad_sets_of (told.Sim (sim.Sets (reads.BadAt line))) = Some (bad.Line (line - 1))
bad_sets_of (told.Sim (sim.Stopped fault)) = None
bad_sets_of (told.Replay fault) = None
