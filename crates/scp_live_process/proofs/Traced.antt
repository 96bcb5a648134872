-- A node that ran, and whose steps were written.
use Rattle.std.proofs.Common.{◌≡◌, ◌<◌, ℕ, false, List, [], Option, sym, ap, subst, inl, inr, ⊎_elim}
use Rattle.std.specs.Prelude.{◌⊎◌}
use Rattle.scp_stand_node.specs.scp_types.specs.declared.fault.Fault.{Fault}
use Rattle.scp_stand_node.specs.scp_types.specs.declared.fault.Fault.TheVariants.{NoMemory, Device}
use Rattle.scp_batches.specs.scp_live_log.specs.declared.kept.LogFault.TheVariants.{Failed}
use Rattle.scp_batches.specs.scp_live_log.specs.declared.wanted.Wanted.{Wanted}
use Rattle.scp_stand_node.specs.scp_turn.specs.Kv.{Watched}
use Rattle.scp_trace_text.specs.Watching.{TraceView, noting, TracedIsWhatHappened}
use Rattle.scp_live.specs.scp_live_config.specs.declared.settings.Settings.{Settings}
use Rattle.scp_live.specs.Beginning.{Configures}
use Rattle.scp_live_process.specs.Stands.{AreNamesIn}
use Rattle.scp_live_process.specs.Starting.{RunsAs, TracesRun, IsTracedRun}

pub traces_run : {L : Type 0} {wanted : Wanted} (holds may_leave : L → List ℕ → Type 0) (settings : Settings) (left written longer : Option (List ℕ)) (log : L) (first last : TraceView) → TracedIsWhatHappened → AreNamesIn settings.names.items first.names → first.facts.tellings ≡ [] → last.has_failed ≡ false
    → (runs : RunsAs holds may_leave wanted settings left written longer log) × Watched noting 1 first runs.begun.node runs.heard runs.node.node last → TracesRun holds may_leave wanted settings left written longer log first.written last.written
traces_run holds may_leave settings left written longer log first last law names none calm p =
    let runs = p.0 in
    record {
      runs = runs;
      names = first.names;
      named = names;
      is = law 1 runs.begun.node runs.node.node runs.heard first last none calm p.1;
    }

-- the same of a text that configures the node
pub traced_run : {L : Type 0} {wanted : Wanted} (holds may_leave : L → List ℕ → Type 0) (config : List ℕ) (settings : Settings) (left written longer : Option (List ℕ)) (log : L) (first last : TraceView) (trace traced : Option (List ℕ)) → Configures config settings → first.written ≡ trace → traced ≡ last.written
    → TracesRun holds may_leave wanted settings left written longer log first.written last.written → IsTracedRun holds may_leave wanted config left written longer log trace traced
traced_run {wanted = wanted} holds may_leave config settings left written longer log first last trace traced configures begins ends runs = record {
  settings = settings;
  configures = configures;
  runs = subst (λ (t : Option (List ℕ)). TracesRun holds may_leave wanted settings left written longer log trace t) (sym ends)
      (subst (λ (t : Option (List ℕ)). TracesRun holds may_leave wanted settings left written longer log t last.written) begins runs);
}

-- why a part of a trace is missing
pub untraced : (f : Fault) (failures : ℕ) → (f ≡ NoMemory) ⊎ ((f ≡ Device) × (0 < failures)) → (Failed f ≡ Failed NoMemory) ⊎ ((Failed f ≡ Failed Device) × (0 < failures))
untraced f failures why =
    ⊎_elim
    (λ (e : f ≡ NoMemory). inl (ap (λ (x : Fault). Failed x) e))
    (λ (d : (f ≡ Device) × (0 < failures)). inr (ap (λ (x : Fault). Failed x) d.0, d.1))
    why
