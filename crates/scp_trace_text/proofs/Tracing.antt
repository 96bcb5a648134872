-- What a watch wrote is what happened.
use Rattle.std.proofs.Common.{◌≡◌, ◌∙◌, ℕ, true, false, Bool, List, [], ◌∷◌, ◌++◌, Option, None, Some, map, flat_map, refl, sym, ap, subst, append_assoc, append-nil, inl, inr}
use Rattle.scp_facts.specs.scp_core.specs.declared.event.Event.{Event}
use Rattle.scp_facts.specs.scp_core.specs.declared.event.Reply.{Reply}
use Rattle.scp_facts.specs.scp_core.specs.History.{Exchange}
use Rattle.scp_facts.specs.scp_core.specs.Kv.{NodeView}
use Rattle.scp_stand_slot.specs.scp_device.specs.Device.{Gains}
use Rattle.scp_facts.specs.scp_turn.specs.Kv.{Watched}
use Rattle.scp_stand_slot.specs.declared.names.Names.{Names}
use Rattle.scp_facts.specs.declared.fact.Fact.{Fact}
use Rattle.scp_facts.specs.declared.fact.Telling.{Telling}
use Rattle.scp_facts.specs.Facts.{facts_in}
use Rattle.scp_facts.specs.Telling.{of_node}
use Rattle.scp_facts.specs.Watching.{StepIsTold}
use Rattle.scp_trace_text.specs.Tracing.{live_text, Traces}
use Rattle.scp_trace_text.specs.Watching.{TraceView, AwaitsStep, TracesStep, telling_text, noting, TracedIsWhatHappened}

-- ---- writers

gains_none : (w : Option (List ℕ)) → Gains w [] w
gains_none None = tt
gains_none (Some w) = ap (λ (l : List ℕ). Some l) (sym (append-nil w))

gains_on : (a b c : Option (List ℕ)) (s t : List ℕ) → Gains a s b → Gains b t c → Gains a (s ++ t) c
gains_on None b c s t p q = tt
gains_on (Some w) b c s t p q =
    let r : Gains (Some (w ++ s)) t c = subst (λ (m : Option (List ℕ)). Gains m t c) p q in
    r ∙ ap (λ (l : List ℕ). Some l) (append_assoc w s t)

-- ---- one step

-- the lines of facts, as of a node
texts : (names : Names) (n : ℕ) (v : NodeView) (facts : List Fact) → flat_map (telling_text names v) (map (of_node n) facts) ≡ flat_map (live_text names v) facts
texts names n v [] = refl
texts names n v (fact ∷ facts) = ap (λ (l : List ℕ). live_text names v fact ++ l) (texts names n v facts)

no_failure : (b : Bool) (P : Type 0) → b ≡ true → b ≡ false → P
no_failure true P p q = absurd (let e : true ≡ false = q in cc)
no_failure false P p q = absurd (let e : false ≡ true = p in cc)

-- a watch that hasn't failed behind a step hadn't before
calm_step : (w m v : TraceView) (n : ℕ) (e : Event) (r : Reply) (before after' : NodeView) → AwaitsStep w n e before m → TracesStep m n r after' v → v.has_failed ≡ false → w.has_failed ≡ false
calm_step w m v n e r before after' waits (inl failed) calm = no_failure v.has_failed (w.has_failed ≡ false) failed calm
calm_step w m v n e r before after' (inl failed) (inr writes) calm =
    no_failure m.has_failed (w.has_failed ≡ false) failed (sym (ap (λ (x : TraceView). x.has_failed) writes.2.same) ∙ calm)
calm_step w m v n e r before after' (inr waits) (inr writes) calm =
    sym (ap (λ (x : TraceView). x.has_failed) waits.1) ∙ sym (ap (λ (x : TraceView). x.has_failed) writes.2.same) ∙ calm

-- what it wrote of a step: it calls all the same, and nothing is left to be written
record Wrote (w v : TraceView) (text : List ℕ) : Type 0 where
  names : v.names ≡ w.names
  none : v.facts.tellings ≡ []
  wrote : Gains w.written text v.written

step_wrote : StepIsTold → (w m v : TraceView) (n : ℕ) (e : Event) (r : Reply) (before after' : NodeView) → AwaitsStep w n e before m → TracesStep m n r after' v → v.has_failed ≡ false → w.facts.tellings ≡ [] → Wrote w v (flat_map (live_text w.names after') (facts_in e r before after'))
step_wrote law w m v n e r before after' waits (inl failed) calm none = no_failure v.has_failed _ failed calm
step_wrote law w m v n e r before after' (inl failed) (inr writes) calm none =
    no_failure m.has_failed _ failed (sym (ap (λ (x : TraceView). x.has_failed) writes.2.same) ∙ calm)
step_wrote law w m v n e r before after' (inr waits) (inr writes) calm none =
    let told = writes.0 in
    let facts = facts_in e r before after' in
    let happened = (law n e r before after' w.facts told writes.2.calm (m.facts, waits.0, writes.1)).1 in
    let tellings : told.tellings ≡ map (of_node n) facts = happened ∙ ap (λ (l : List Telling). l ++ map (of_node n) facts) none in
    let is : flat_map (telling_text m.names after') told.tellings ≡ flat_map (live_text w.names after') facts =
    ap (λ (x : TraceView). flat_map (telling_text x.names after') told.tellings) waits.1 ∙ ap (λ (l : List Telling). flat_map (telling_text w.names after') l) tellings ∙ texts w.names n after' facts in
    let wrote : Gains w.written (flat_map (telling_text m.names after') told.tellings) v.written =
    subst (λ (o : Option (List ℕ)). Gains o (flat_map (telling_text m.names after') told.tellings) v.written) (ap (λ (x : TraceView). x.written) waits.1) writes.2.wrote in
    record {
      names = ap (λ (x : TraceView). x.names) writes.2.same ∙ ap (λ (x : TraceView). x.names) waits.1;
      none = ap (λ (x : TraceView). x.facts.tellings) writes.2.same;
      wrote = subst (λ (t : List ℕ). Gains w.written t v.written) is wrote;
    }

-- ---- all steps

calm_before : (number : ℕ) (w z : TraceView) (old new : NodeView) (heard : List Exchange) → Watched noting number w old heard new z → z.has_failed ≡ false → w.has_failed ≡ false
calm_before number w z old new [] noted calm = sym (ap (λ (x : TraceView). x.has_failed) noted.1) ∙ calm
calm_before number w z old new (h ∷ heard) noted calm =
    calm_step w noted.3.0 noted.1 number h.0 h.1 old noted.0 noted.3.1 noted.3.2 (calm_before number noted.1 z noted.0 new heard noted.4 calm)

-- behind what was written before
record TracedBehind (names : Names) (past : List ℕ) (old : NodeView) (heard : List Exchange) (new : NodeView) (written longer : Option (List ℕ)) : Type 0 where
  text : List ℕ
  traced : Watched (Traces names) 1 past old heard new (past ++ text)
  wrote : Gains written text longer

behind : StepIsTold → (number : ℕ) (w z : TraceView) (old new : NodeView) (heard : List Exchange) (past : List ℕ) → Watched noting number w old heard new z → z.has_failed ≡ false → w.facts.tellings ≡ [] → TracedBehind w.names past old heard new w.written z.written
behind law number w z old new [] past noted calm none = record {
  text = [];
  traced = (noted.0, append-nil past);
  wrote = subst (λ (o : Option (List ℕ)). Gains w.written [] o) (sym (ap (λ (x : TraceView). x.written) noted.1)) (gains_none w.written);
}
behind law number w z old new (h ∷ heard) past noted calm none =
    let v = noted.1 in
    let step = step_wrote law w noted.3.0 v number h.0 h.1 old noted.0 noted.3.1 noted.3.2 (calm_before number v z noted.0 new heard noted.4 calm) none in
    let here = flat_map (live_text w.names noted.0) (facts_in h.0 h.1 old noted.0) in
    let rest = behind law number v z noted.0 new heard (past ++ here) noted.4 calm step.none in
    let traced : Watched (Traces w.names) 1 (past ++ here) noted.0 heard new ((past ++ here) ++ rest.text) =
    subst (λ (n : Names). Watched (Traces n) 1 (past ++ here) noted.0 heard new ((past ++ here) ++ rest.text)) step.names rest.traced in
    record {
      text = here ++ rest.text;
      traced = (noted.0, past ++ here, noted.2, refl, subst (λ (t : List ℕ). Watched (Traces w.names) 1 (past ++ here) noted.0 heard new t) (append_assoc past here rest.text) traced);
      wrote = gains_on w.written v.written z.written here rest.text step.wrote rest.wrote;
    }

pub traced_is_what_happened : StepIsTold → TracedIsWhatHappened
traced_is_what_happened law number old new heard first last none calm noted =
    let all = behind law number first last old new heard [] noted calm none in
    record { text = all.text; traced = all.traced; wrote = all.wrote }
