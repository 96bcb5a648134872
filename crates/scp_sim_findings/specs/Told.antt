-- The report of a simulated run (this project's profile).
use Rattle.std.specs.Prelude.{ℕ, ◌≡◌, ◌⊎◌, Bool, not, ◌||◌, true, false, List, [], ◌∷◌, ◌++◌, Option, Some, None, codes, get_or, length, string_bytes}
use Rattle.std.specs.Fmt.{decimal}
use Rattle.std.specs.Global.{Vec}
use Rattle.scp_sim_findings.specs.declared.outcome.Finding.{Finding}
use Rattle.scp_sim_findings.specs.declared.running.Told.{Told}
use Rattle.scp_sim_findings.specs.Outcome.{IsWorst, closed_by, judged_of, outcome_text}
use Rattle.scp_sim_findings.specs.Replayed.{IsReplayed, ComesTo}
use Rattle.scp_sim_findings.specs.Needs.{AreAlike, IsStandOf}
use Rattle.scp_sim_findings.specs.Shrunk.{IsPartOf, text_of}
use Rattle.scp_notices.specs.scp_turn.specs.Heard.{Nodes}
use Rattle.scp_notices.specs.scp_turn.specs.Network.{NetworkView}
use Rattle.scp_sim.specs.scp_sim_options.specs.declared.plan.Plan.{Plan}
use Rattle.scp_notices.specs.scp_script_text.specs.declared.script.Form.TheVariants.{Text}
use Rattle.scp_notices.specs.scp_script_text.specs.declared.script.Kind.TheVariants.{Nodes as OfNodes}
use Rattle.scp_notices.specs.scp_script_text.specs.Scripts.{IsScriptOf}
use Rattle.scp_script_hints.specs.scp_script.specs.Words.{lines_of}
use Rattle.scp_notices.specs.declared.notice.Notice.{Notice}
use Rattle.scp_sim.specs.declared.world.Counts.{Counts}
use Rattle.scp_sim.specs.declared.world.Simulated.{Simulated}
use Rattle.scp_sim.specs.Simulated.{IsSimulated}
use Rattle.scp_notices.specs.scp_script_check.specs.declared.reading.Script.{Script}

-- The node at this index is judged: it neither equivocates nor floods.
abbrev pub is_judged_at : Plan → ℕ → Bool
is_judged_at plan place = not (get_or plan.equivocating place false || get_or plan.flooding place false)

-- The marks of eight nodes: whether each is judged.
abbrev pub marks_of : Plan → List Bool
marks_of plan =
    is_judged_at plan 0
    ∷ is_judged_at plan 1
    ∷ is_judged_at plan 2
    ∷ is_judged_at plan 3
    ∷ is_judged_at plan 4
    ∷ is_judged_at plan 5
    ∷ is_judged_at plan 6
    ∷ is_judged_at plan 7
    ∷ []

-- The first six lines of the report: the seed, the simulated time in milliseconds, what the simulation counted, and the length of the
-- script's text in bytes.
abbrev pub counted_text : ℕ → ℕ → Counts → ℕ → List ℕ
counted_text seed time counts bytes =
    codes "seed " ++ decimal seed ++ codes "\n"
    ++ (codes "time " ++ decimal time ++ codes " ms\n")
    ++ (codes "messages " ++ decimal counts.sent ++ codes " lost " ++ decimal counts.lost ++ codes " doubled " ++ decimal counts.doubled ++ codes "\n")
    ++ (codes "timers rounds " ++ decimal counts.rounds ++ codes " ballots " ++ decimal counts.ballots ++ codes "\n")
    ++ (codes "asked " ++ decimal counts.asked ++ codes "\n")
    ++ (codes "script " ++ decimal bytes ++ codes " bytes\n")

-- The line of a run that the plan ended before all slots were closed. Any other run has none.
abbrev pub cut_text : Bool → ℕ → List ℕ
cut_text true slots = codes "ended before " ++ decimal slots ++ codes " slots were closed\n"
cut_text false slots = []

-- How many slots nodes were to apply: those of the plan, or if the plan ended the run, as many as all judged nodes applied.
abbrev pub slots_for : Plan → Bool → Nodes → ℕ
slots_for plan true nodes = closed_by plan.slots (judged_of (marks_of plan) nodes)
slots_for plan false nodes = plan.slots

-- The report of a simulation. Its script is that of the simulation, as text. The script was played once more, and gave the reports that
-- the simulation saw. The text has what the simulation counted, a line if the plan ended it, and then the
-- outcome at the nodes that played the script. The report
-- also has the worst finding, how many slots all judged nodes applied, and the time and the counts of the simulation.
pub record IsTold (plan : Plan) (seed : ℕ) (run : Simulated) (told : Told) : Type 0 where
  pub script_is : IsScriptOf OfNodes Text (string_bytes run.script) told.script.items
  pub parsed : Script
  pub network : NetworkView
  pub notices : List Notice
  pub replayed : IsReplayed told.script.items (string_bytes run.reports) parsed network notices
  pub text_is : string_bytes told.text ≡ (counted_text seed run.time run.counts (length told.script.items) ++ cut_text run.is_cut plan.slots) ++ outcome_text (marks_of plan) (slots_for plan run.is_cut network.nodes) network.nodes notices
  pub worst : IsWorst told.finding (marks_of plan) (slots_for plan run.is_cut network.nodes) network.nodes notices
  pub closed_is : told.closed ≡ closed_by (slots_for plan run.is_cut network.nodes) (judged_of (marks_of plan) network.nodes)
  pub time_is : told.time ≡ run.time
  pub counts_are : told.counts ≡ run.counts
  pub whole : told.shrunk ≡ None

-- The report of a simulation of this plan.
pub record IsToldOf (plan : Plan) (seed : ℕ) (told : Told) : Type 0 where
  pub run : Simulated
  pub simulated : IsSimulated plan (string_bytes run.script)
  pub is : IsTold plan seed run told

-- The same report with a smaller script beside the whole one. It has lines of the whole script, in their order, comes to the same finding,
-- and if nodes are stuck, for the same needs. The text stays and gets one more line, with the length of the smaller script in bytes.
pub record IsShorter (finding : Finding) (marks : List Bool) (slots : ℕ) (old new : Told) (script : Vec ℕ) : Type 0 where
  pub shrunk : new.shrunk ≡ Some script
  pub part : IsPartOf (lines_of old.script.items) script.items
  pub comes : ComesTo script.items finding marks slots
  pub alike : AreAlike finding (text_of (lines_of old.script.items)) script.items
  pub text_is : string_bytes new.text ≡ string_bytes old.text ++ (codes "shrunk to " ++ decimal (length script.items) ++ codes " bytes\n")
  pub rest : new ≡ record old { shrunk = new.shrunk; text = new.text }

-- With a finding, the report may get a smaller script, or it stays as it was. Without a finding, it stays as it was.
abbrev pub Shortens : Option Finding → List Bool → ℕ → Told → Told → Type 0
Shortens (Some finding) marks slots old new = (new ≡ old) ⊎ ((script : Vec ℕ) × IsShorter finding marks slots old new script)
Shortens None marks slots old new = new ≡ old

-- The report's text stays, and is followed by the status of the nodes of the report's script. Nothing may be added instead, as for a text
-- that isn't a script.
pub record TellsStand (old new : Told) : Type 0 where
  pub stand : (new ≡ old) ⊎ ((text : List ℕ) × IsStandOf old.script.items text × (string_bytes new.text ≡ string_bytes old.text ++ text))
  pub rest : new ≡ record old { text = new.text }
