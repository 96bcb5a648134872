-- Why a node failed, of all that it heard.
use Rattle.std.proofs.Common.{◌≡◌, Bool, true, false, List, [], ◌∷◌, refl, sym, ◌∙◌, ap, subst, arith, Option, inl, inr, ⊎_elim}
use Rattle.std.specs.Prelude.{Err, Some, None, is_some, IsErrOf, ◌⊎◌, ◌↔◌, ◌||◌, if◌then◌else◌}
use Rattle.scp_core.specs.scp_driver.specs.Driver.{Says}
use Rattle.scp_core.specs.scp_types.specs.declared.fault.Fault.{Fault}
use Rattle.scp_core.specs.scp_types.specs.declared.fault.Fault.TheVariants.{JournalFull, NoMemory}
use Rattle.scp_core.specs.declared.event.Event.{Event}
use Rattle.scp_core.specs.declared.event.Reply.{Reply}
use Rattle.scp_core.specs.declared.event.Reply.TheVariants as reply
use Rattle.scp_core.specs.History.{Exchange}
use Rattle.scp_core.specs.Node.{NodeView, Step, StepsSayWhy}
use Rattle.scp_turn.specs.Turn.{Does}
use Rattle.scp_turn.specs.declared.playing.Played.{Played}
use Rattle.scp_turn.specs.Episode.{is_full_reply, finds_full}
use Rattle.scp_turn.specs.inside.Cause.{is_full_fault, cause_of}

pub clash : (b : Bool) → b ≡ false → b ≡ true → ⊥
clash true f t = cc
clash false f t = cc

or_false : (c : Bool) → (c || false) ≡ c
or_false true = refl
or_false false = refl

either_is : (c d : Bool) → (c || d) ≡ true → (c ≡ true) ⊎ (d ≡ true)
either_is true d e = inl refl
either_is false d e = inr e

turned : (a b c : Bool) → (b || (a || c)) ≡ ((a || b) || c)
turned a b c = grind arith

pub nothing_in : (o : Option Fault) → is_some o ≡ false → o ≡ None
nothing_in None e = refl
nothing_in (Some f) e = absurd cc

module _ {D : Type 0} where
  -- a node that runs has no reason to have failed
  abbrev IsTold : NodeView D → Type 0
  IsTold v = v.failed ≡ false → v.fault ≡ None

module _ {D : Type 0} (says : Says D) where
  -- ---- a step

  full_step : StepsSayWhy says → (old new : NodeView D) (e : Event) (r : Reply) → IsTold old → Step says old e r new → (is_full_fault new.fault ≡ (is_full_reply r || is_full_fault old.fault)) × IsTold new
  full_step why old new e reply.JournalFull told s = (ap is_full_fault s.2, λ runs. absurd (clash new.failed runs s.0.failed))
  full_step why old new e reply.NoMemory told s = (ap is_full_fault s.2 ∙ sym (ap is_full_fault (told s.0.was)), λ runs. absurd (clash new.failed runs s.0.failed))
  full_step why old new e reply.Failed told s = (ap (λ (v : NodeView D). is_full_fault v.fault) s.1, subst (λ (v : NodeView D). IsTold v) (sym s.1) told)
  full_step why old new e r told s = (ap is_full_fault (why old new e r s), λ runs. why old new e r s ∙ told s.0)

  fails_full : (old new : NodeView D) (e : Event) (r : Reply) → is_full_reply r ≡ true → Step says old e r new → new.failed ≡ true
  fails_full old new e reply.JournalFull is s = s.0.failed
  fails_full old new e r is s = absurd cc

  failed_stays : (old new : NodeView D) (e : Event) (r : Reply) → old.failed ≡ true → Step says old e r new → new.failed ≡ true
  failed_stays old new e reply.JournalFull failed s = s.0.failed
  failed_stays old new e reply.NoMemory failed s = s.0.failed
  failed_stays old new e reply.Failed failed s = ap (λ (v : NodeView D). v.failed) s.1 ∙ failed
  failed_stays old new e r failed s = absurd (clash old.failed s.0 failed)

  -- ---- all that it heard

  full_in : StepsSayWhy says → (heard : List Exchange) (a b : NodeView D) → IsTold a → Does says a heard b → is_full_fault b.fault ≡ (finds_full heard || is_full_fault a.fault)
  full_in why [] a b told does = ap (λ (v : NodeView D). is_full_fault v.fault) does
  full_in why (x ∷ heard) a b told does =
      let one = full_step why a does.0 x.0 x.1 told does.1 in
      full_in why heard does.0 b one.1 does.2 ∙ ap (λ (c : Bool). finds_full heard || c) one.0 ∙ turned (is_full_reply x.1) (finds_full heard) (is_full_fault a.fault)

  still_failed : (heard : List Exchange) (a b : NodeView D) → a.failed ≡ true → Does says a heard b → b.failed ≡ true
  still_failed [] a b failed does = ap (λ (v : NodeView D). v.failed) does ∙ failed
  still_failed (x ∷ heard) a b failed does = still_failed heard does.0 b (failed_stays a does.0 x.0 x.1 failed does.1) does.2

  -- if a step found the journal full, the node has failed
  pub fell : (heard : List Exchange) (a b : NodeView D) → Does says a heard b → finds_full heard ≡ true → b.failed ≡ true
  fell [] a b does found = let none : false ≡ true = found in absurd cc
  fell (x ∷ heard) a b does found =
      ⊎_elim (λ is. still_failed heard does.0 b (fails_full a does.0 x.0 x.1 is does.1) does.2) (λ later. fell heard does.0 b does.2 later) (either_is (is_full_reply x.1) (finds_full heard) found)

  -- ---- what is reported

  by_cause : (c : Bool) → IsErrOf {T = Played} {E = Fault} (Err (if c then JournalFull else NoMemory)) JournalFull ↔ (c ≡ true)
  by_cause true = (λ is. refl, λ found. refl)
  by_cause false = (λ is. absurd cc, λ found. absurd cc)

  -- a full journal is reported exactly if a step found it full
  pub cause_told : StepsSayWhy says → (heard : List Exchange) (a b : NodeView D) → a.fault ≡ None → Does says a heard b → IsErrOf {T = Played} {E = Fault} (Err (cause_of b.fault)) JournalFull ↔ (finds_full heard ≡ true)
  cause_told why heard a b none does =
      let is : is_full_fault b.fault ≡ finds_full heard = full_in why heard a b (λ runs. none) does ∙ ap (λ (o : Option Fault). finds_full heard || is_full_fault o) none ∙ or_false (finds_full heard) in
      subst (λ (c : Bool). IsErrOf {T = Played} {E = Fault} (Err (cause_of b.fault)) JournalFull ↔ (c ≡ true)) is (by_cause (is_full_fault b.fault))
