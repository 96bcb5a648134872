-- What a watch told is what happened.
use Rattle.std.proofs.Common.{◌≡◌, ◌∙◌, ℕ, true, false, Bool, List, [], ◌∷◌, ◌++◌, map, refl, sym, ap, inl, inr}
use Rattle.scp_turn.specs.scp_core.specs.declared.event.Event.{Event}
use Rattle.scp_turn.specs.scp_core.specs.declared.event.Event.TheVariants as event
use Rattle.scp_turn.specs.scp_core.specs.declared.event.Reply.{Reply}
use Rattle.scp_turn.specs.scp_core.specs.History.{Exchange}
use Rattle.scp_turn.specs.scp_core.specs.Kv.{NodeView}
use Rattle.scp_turn.specs.Kv.{Watched}
use Rattle.scp_facts.specs.declared.fact.Fact.{Fact}
use Rattle.scp_facts.specs.declared.fact.Telling.{Telling}
use Rattle.scp_facts.specs.declared.watch.Awaited.{Awaited}
use Rattle.scp_facts.specs.Facts.{facts_in}
use Rattle.scp_facts.specs.Telling.{of_node, Tells}
use Rattle.scp_facts.specs.Watching.{WatchView, awaited, happens, Awaits, TellsStep, noting, StepIsTold, ToldIsWhatHappened}

-- what is told is what happened
happens_so : (e : Event) (r : Reply) (before after' : NodeView) → happens (awaited e before) r after' ≡ facts_in e r before after'
happens_so (event.Open l) r before after' = refl
happens_so (event.Send l bytes) r before after' = refl
happens_so (event.Close l) r before after' = refl
happens_so (event.Local command) r before after' = refl
happens_so (event.Drain l) r before after' = refl
happens_so event.SlotTake r before after' = refl
happens_so (event.ReaderTake l) r before after' = refl
happens_so (event.ReaderPut l) r before after' = refl
happens_so event.PendTake r before after' = refl
happens_so event.PendPut r before after' = refl
happens_so event.SlotPut r before after' = refl
happens_so event.ApplyTake r before after' = refl

-- one step
step_told : (w m v : WatchView) (number : ℕ) (e : Event) (r : Reply) (before after' : NodeView) → Awaits w number e before m → TellsStep m number r after' v → v.lacks_memory ≡ false → (w.lacks_memory ≡ false) × Tells w.tellings number e r before after' v.tellings
step_told w m v number e r before after' waits (inl lacks) calm = absurd (let no : true ≡ false = sym lacks ∙ calm in cc)
step_told w m v number e r before after' (inl lacks) (inr tells) calm = absurd (let no : true ≡ false = sym lacks ∙ sym (ap (λ (x : WatchView). x.lacks_memory) tells) ∙ calm in cc)
step_told w m v number e r before after' (inr waits) (inr tells) calm = (
  sym (ap (λ (x : WatchView). x.lacks_memory) waits) ∙ sym (ap (λ (x : WatchView). x.lacks_memory) tells) ∙ calm,
  ap (λ (x : WatchView). x.tellings) tells
      ∙ ap (λ (l : List Telling). l ++ map (of_node number) (happens m.awaited r after')) (ap (λ (x : WatchView). x.tellings) waits)
      ∙ ap (λ (a : Awaited). w.tellings ++ map (of_node number) (happens a r after')) (ap (λ (x : WatchView). x.awaited) waits)
      ∙ ap (λ (facts : List Fact). w.tellings ++ map (of_node number) facts) (happens_so e r before after'),
)

-- all steps of one node
watched_told : (number : ℕ) (w z : WatchView) (old new : NodeView) (heard : List Exchange) → Watched noting number w old heard new z → z.lacks_memory ≡ false → (w.lacks_memory ≡ false) × Watched Tells number w.tellings old heard new z.tellings
watched_told number w z old new [] noted calm = (sym (ap (λ (x : WatchView). x.lacks_memory) noted.1) ∙ calm, (noted.0, ap (λ (x : WatchView). x.tellings) noted.1))
watched_told number w z old new (h ∷ heard) noted calm =
    let rest = watched_told number noted.1 z noted.0 new heard noted.4 calm in
    let here = step_told w noted.3.0 noted.1 number h.0 h.1 old noted.0 noted.3.1 noted.3.2 rest.0 in
    (here.0, (noted.0, noted.1.tellings, noted.2, here.1, rest.1))

pub told_is_what_happened : ToldIsWhatHappened
told_is_what_happened number old new heard first last calm noted = (watched_told number first last old new heard noted calm).1

pub step_is_told : StepIsTold
step_is_told number event reply before after' first last calm noted = step_told first noted.0 last number event reply before after' noted.1 noted.2 calm
