-- What a watch kept is what happened.
use Rattle.std.proofs.Common.{◌≡◌, ◌∙◌, ℕ, true, false, List, [], ◌∷◌, ◌++◌, Option, refl, sym, ap, inl, inr}
use Rattle.scp_turn.specs.scp_core.specs.declared.event.Event.{Event}
use Rattle.scp_turn.specs.scp_core.specs.declared.event.Event.TheVariants as event
use Rattle.scp_turn.specs.scp_core.specs.declared.event.Reply.{Reply}
use Rattle.scp_turn.specs.scp_core.specs.History.{Exchange}
use Rattle.scp_turn.specs.scp_core.specs.Kv.{NodeView}
use Rattle.scp_turn.specs.Kv.{Watched}
use Rattle.scp_facts.specs.declared.happening.Happening.{Happening}
use Rattle.scp_facts.specs.declared.happening.Kept.{Kept}
use Rattle.scp_facts.specs.declared.keeping.Awaited.{Awaited}
use Rattle.scp_facts.specs.Kept.{happening_in, kept_of, Keeps}
use Rattle.scp_facts.specs.Keeping.{WatchView, awaited, happens, Awaits, KeepsStep, noting, KeptIsWhatHappened, StepIsKept}

-- what is kept is what happened
happens_so : (e : Event) (r : Reply) (before after' : NodeView) → happens (awaited e before) r after' ≡ happening_in e r before after'
happens_so (event.Open l) r before after' = refl
happens_so (event.Send l bytes) r before after' = refl
happens_so (event.Close l) r before after' = refl
happens_so (event.Local command) r before after' = refl
happens_so (event.Drain l) r before after' = refl
happens_so event.SlotTake r before after' = refl
happens_so (event.ReaderTake l) r before after' = refl
happens_so (event.ReaderPut l) r before after' = refl
happens_so event.PendTake r before after' = refl
happens_so event.PendPut r before after' = refl
happens_so event.SlotPut r before after' = refl
happens_so event.ApplyTake r before after' = refl

-- one step
step_kept : (w m v : WatchView) (number : ℕ) (e : Event) (r : Reply) (before after' : NodeView) → Awaits w number e before m → KeepsStep m number r after' v → v.lacks_memory ≡ false → (w.lacks_memory ≡ false) × Keeps w.kept number e r before after' v.kept
step_kept w m v number e r before after' waits (inl lacks) calm = absurd (let no : true ≡ false = sym lacks ∙ calm in cc)
step_kept w m v number e r before after' (inl lacks) (inr keeps) calm = absurd (let no : true ≡ false = sym lacks ∙ sym (ap (λ (x : WatchView). x.lacks_memory) keeps) ∙ calm in cc)
step_kept w m v number e r before after' (inr waits) (inr keeps) calm = (
  sym (ap (λ (x : WatchView). x.lacks_memory) waits) ∙ sym (ap (λ (x : WatchView). x.lacks_memory) keeps) ∙ calm,
  ap (λ (x : WatchView). x.kept) keeps
      ∙ ap (λ (l : List Kept). l ++ kept_of number (happens m.awaited r after')) (ap (λ (x : WatchView). x.kept) waits)
      ∙ ap (λ (a : Awaited). w.kept ++ kept_of number (happens a r after')) (ap (λ (x : WatchView). x.awaited) waits)
      ∙ ap (λ (o : Option Happening). w.kept ++ kept_of number o) (happens_so e r before after'),
)

pub step_is_kept : StepIsKept
step_is_kept number event reply before after' first last calm noted = step_kept first noted.0 last number event reply before after' noted.1 noted.2 calm

-- all steps of one node
watched_kept : (number : ℕ) (w z : WatchView) (old new : NodeView) (heard : List Exchange) → Watched noting number w old heard new z → z.lacks_memory ≡ false → (w.lacks_memory ≡ false) × Watched Keeps number w.kept old heard new z.kept
watched_kept number w z old new [] noted calm = (sym (ap (λ (x : WatchView). x.lacks_memory) noted.1) ∙ calm, (noted.0, ap (λ (x : WatchView). x.kept) noted.1))
watched_kept number w z old new (h ∷ heard) noted calm =
    let rest = watched_kept number noted.1 z noted.0 new heard noted.4 calm in
    let here = step_kept w noted.3.0 noted.1 number h.0 h.1 old noted.0 noted.3.1 noted.3.2 rest.0 in
    (here.0, (noted.0, noted.1.kept, noted.2, here.1, rest.1))

pub kept_is_what_happened : KeptIsWhatHappened
kept_is_what_happened number old new heard first last calm noted = (watched_kept number first last old new heard noted calm).1
