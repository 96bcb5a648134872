-- What is told of a run, by what was played.
use Rattle.std.proofs.Common.{◌≡◌, ℕ, Bool, List, None, ◌++◌, ◌∙◌, ap, length, string_bytes, subst, Ok, Err, String, Global}
use Rattle.std.specs.Prelude.{Result, IfOk}
use Rattle.scp_script_hints.specs.scp_script.specs.declared.command.Command.{Command}
use Rattle.scp_notices.specs.scp_script_check.specs.Lines.{IsSaid}
use Rattle.scp_script_hints.specs.Told.{TellsApart, members_in}
use Rattle.scp_sim_findings.specs.Apart.{TellsPlanApart}
use Rattle.scp_sim_findings.specs.declared.running.Told.{Told}
use Rattle.scp_sim_findings.specs.declared.running.ToldFault.{ToldFault}
use Rattle.scp_sim_findings.specs.Outcome.{IsWorst, closed_by, judged_of, outcome_text}
use Rattle.scp_sim_findings.specs.Replayed.{IsReplayed}
use Rattle.scp_sim_findings.specs.Told.{counted_text, cut_text, IsTold, IsToldOf, marks_of, slots_for}
use Rattle.scp_notices.specs.scp_turn.specs.Heard.{Nodes}
use Rattle.scp_notices.specs.scp_turn.specs.Network.{NetworkView}
use Rattle.scp_sim.specs.scp_sim_options.specs.declared.plan.Plan.{Plan}
use Rattle.scp_notices.specs.scp_script_text.specs.declared.script.Form.TheVariants.{Text}
use Rattle.scp_notices.specs.scp_script_text.specs.declared.script.Kind.TheVariants.{Nodes as OfNodes}
use Rattle.scp_notices.specs.scp_script_text.specs.Scripts.{IsScriptOf}
use Rattle.scp_notices.specs.declared.notice.Notice.{Notice}
use Rattle.scp_sim.specs.declared.world.Simulated.{Simulated}
use Rattle.scp_sim.specs.Simulated.{IsSimulated, first_lines}
use Rattle.scp_notices.specs.scp_script_check.specs.declared.reading.Script.{Script}

-- what is told of nodes that are judged so
abbrev pub Tells : Told → List ℕ → List Bool → ℕ → Nodes → List Notice → Type 0
Tells told counted marks slots nodes notices =
    (string_bytes told.text ≡ counted ++ outcome_text marks slots nodes notices)
    × IsWorst told.finding marks slots nodes notices
    × (told.closed ≡ closed_by slots (judged_of marks nodes))

pub is_told : (plan : Plan) (seed : ℕ) (run : Simulated) (told : Told) (read reports counted : List ℕ) (marks : List Bool) (slots : ℕ) (nodes : Nodes) (shown notices : List Notice) (parsed : Script) (network : NetworkView)
    → marks ≡ marks_of plan → slots ≡ slots_for plan run.is_cut nodes → nodes ≡ network.nodes → shown ≡ notices → read ≡ told.script.items → reports ≡ string_bytes run.reports
    → IsScriptOf OfNodes Text (string_bytes run.script) told.script.items → IsReplayed read reports parsed network notices
    → counted ≡ counted_text seed run.time run.counts (length told.script.items) ++ cut_text run.is_cut plan.slots → Tells told counted marks slots nodes shown → told.time ≡ run.time → told.counts ≡ run.counts → told.shrunk ≡ None
    → IsTold plan seed run told
is_told plan seed run told read reports counted marks slots nodes shown notices parsed network m s n x r p script replayed counts tells time same whole =
    let due : ℕ = slots_for plan run.is_cut network.nodes in
    let all : Tells told counted (marks_of plan) due network.nodes notices =
    subst (λ (ms : List Bool). Tells told counted ms due network.nodes notices) m
    (subst (λ (k : ℕ). Tells told counted marks k network.nodes notices) (s ∙ ap (slots_for plan run.is_cut) n)
    (subst (λ (ns : Nodes). Tells told counted marks slots ns notices) n
    (subst (λ (xs : List Notice). Tells told counted marks slots nodes xs) x tells))) in
    record {
      script_is = script;
      parsed = parsed;
      network = network;
      notices = notices;
      replayed = subst (λ (t : List ℕ). IsReplayed t (string_bytes run.reports) parsed network notices) r (subst (λ (t : List ℕ). IsReplayed read t parsed network notices) p replayed);
      text_is = all.0 ∙ ap (λ (t : List ℕ). t ++ outcome_text (marks_of plan) due network.nodes notices) counts;
      worst = all.1;
      closed_is = all.2;
      time_is = time;
      counts_are = same;
      whole = whole;
    }

-- so of what was simulated of a plan
pub told_of : (plan : Plan) (seed : ℕ) (run : Simulated) (r : Result Told ToldFault) → IsSimulated plan (string_bytes run.script) → IfOk r (IsTold plan seed run) → IfOk r (IsToldOf plan seed)
told_of plan seed run (Ok told) s t = record { run = run; simulated = s; is = t }
told_of plan seed run (Err e) s t = tt

-- so of two quorums of the plan's nodes
pub apart_told : (plan : Plan) (script : Script) (shown : List Command) (r : Result (String Global) ToldFault) → shown ≡ script.commands.items → IsSaid (first_lines plan) script.commands.items script.lines.items
    → IfOk r (λ text. TellsApart (members_in shown) (string_bytes text)) → IfOk r (λ text. TellsPlanApart plan (string_bytes text))
apart_told plan script shown (Ok text) e said tells = record {
  commands = script.commands.items;
  lines = script.lines.items;
  said = said;
  tells = subst (λ (cs : List Command). TellsApart (members_in cs) (string_bytes text)) e tells;
}
apart_told plan script shown (Err fault) e said tells = tt
