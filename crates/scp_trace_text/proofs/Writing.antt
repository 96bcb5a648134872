-- What was told is written.
use Rattle.std.proofs.Common.{◌≡◌, ◌≤◌, ◌<◌, ◌-◌, ◌^◌, ◌∙◌, ℕ, zero, suc, false, List, Option, flat_map, sym, ap, subst, arith, inr, lit<}
use Rattle.std.specs.Prelude.{◌⊎◌, Result, Ok, Err, OnOk, OnErr, IfErr}
use Rattle.scp_words.specs.scp_types.specs.declared.fault.Fault.TheVariants.{NoMemory}
use Rattle.scp_words.specs.scp_types.specs.declared.fault.Fault.{Fault}
use Rattle.scp_facts.specs.scp_core.specs.Kv.{NodeView}
use Rattle.scp_stand_slot.specs.scp_device.specs.Device.{Gains, Fails}
use Rattle.scp_facts.specs.declared.fact.Telling.{Telling}
use Rattle.scp_facts.specs.Watching.{WatchView}
use Rattle.scp_trace_text.specs.Watching.{TraceView, WritesStep, telling_text, nothing}

holding : WatchView → Option (List ℕ) → ℕ → TraceView → TraceView
holding facts written failures x = record x { facts = facts; written = written; failures = failures }

pub wrote_step : (r : Result (Unit {0}) Fault) (old seen : TraceView) (v : NodeView) (told last : WatchView) (longer : Option (List ℕ)) (failures : ℕ) (text : List ℕ) (tellings : List Telling) → seen ≡ old → told ≡ seen.facts → told.lacks_memory ≡ false → tellings ≡ told.tellings → text ≡ flat_map (telling_text seen.names v) tellings → last ≡ nothing → OnOk r (Gains seen.written text longer) → OnOk r (failures ≡ seen.failures)
    → OnOk r (WritesStep old old.facts v (record seen { facts = last; written = longer; failures = failures }))
unfolding holding
wrote_step (Ok x) old seen v told last longer failures text tellings same was calm all is none wrote kept =
    let facts : told ≡ old.facts = was ∙ ap (λ (x : TraceView). x.facts) same in
    let lines : text ≡ flat_map (telling_text seen.names v) seen.facts.tellings = is ∙ ap (λ (l : List Telling). flat_map (telling_text seen.names v) l) (all ∙ ap (λ (w : WatchView). w.tellings) was) in
    record {
      calm = sym (ap (λ (w : WatchView). w.lacks_memory) facts) ∙ calm;
      wrote = subst (λ (x : TraceView). Gains x.written (flat_map (telling_text x.names v) x.facts.tellings) longer) same (subst (λ (t : List ℕ). Gains seen.written t longer) lines wrote);
      same = ap (λ (w : WatchView). holding w longer failures seen) none ∙ ap (λ (n : ℕ). holding nothing longer n seen) kept ∙ ap (λ (x : TraceView). holding nothing longer x.failures x) same;
    }
wrote_step (Err f) old seen v told last longer failures text tellings same was calm all is none wrote kept = tt

-- who failed once more has failed
has_failed : (old new most : ℕ) → 0 < most → old ≤ new → (old < most → old < new) → 0 < new
has_failed zero new most some le more = more some
has_failed (suc old) new most some le more = omega arith

pub raised_some : (r : Result (Unit {0}) Fault) (old new : ℕ) → OnErr r (Fails old new) → IfErr r (λ f. (f ≡ NoMemory) ⊎ (0 < new))
raised_some (Ok x) old new raised = tt
raised_some (Err f) old new raised = inr (has_failed old new (2 ^ 64 - 1) (lit< tt) raised.0 raised.1)
