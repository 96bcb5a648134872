-- What is handed out is put, and a drain gives what is next.
use Rattle.std.proofs.Common.{◌≡◌, ◌≢◌, ℕ, true, false, List, [], ◌∷◌, refl, sym, ◌∙◌, ap, subst, inl, inr, zero, suc}
use Rattle.std.specs.Prelude.{Option, Some, None, Result, Ok, Err, OnErr, slice_get, slice_set}
use Rattle.std.proofs.lemmas.List.{append-nil}
use Rattle.scp_theorem.specs.scp_driver.specs.Driver.{Says}
use Rattle.scp_theorem.specs.scp_wire.specs.declared.message.Message.{Message}
use Rattle.scp_theorem.specs.scp_wire.specs.declared.message.Message.TheVariants.{Envelope}
use Rattle.scp_theorem.specs.scp_envelope.specs.declared.statement.Envelope.{Envelope as Enveloped}
use Rattle.scp_theorem.specs.scp_wire.specs.Boxed.{Boxed}
use Rattle.scp_theorem.specs.scp_outbox.specs.Outbox.{OutboxView}
use Rattle.scp_theorem.specs.scp_wire.specs.Fitting.{IsFitting}
use Rattle.scp_theorem.specs.scp_outbox.specs.Handing.{PutsAll, HandsOut, to_link, to_each}
use Rattle.scp_theorem.specs.scp_ledger.specs.declared.took.Outgoing.{Outgoing}
use Rattle.scp_theorem.specs.scp_ledger.specs.declared.took.Outgoing.TheVariants.{ToAll, To}
use Rattle.scp_theorem.specs.Handed.{handed_by, out_of}
use Rattle.scp_core.specs.declared.event.Event.{Event}
use Rattle.scp_core.specs.declared.event.Event.TheVariants.{ReaderTake, ReaderPut, PendTake, PendPut, SlotTake, SlotPut, ApplyTake, Drain}
use Rattle.scp_core.specs.declared.event.Reply.{Reply}
use Rattle.scp_core.specs.declared.event.Reply.TheVariants.{Failed, Accepted, Moved, Sent, Idle, NoLink, JournalFull, NoMemory}
use Rattle.scp_core.specs.Node.{NodeView, Step, Hands, HandsOne, HandsEach, Moves}
use Rattle.scp_core.specs.Handed.{HandedAt, StepsPutAll, IsDrained, DrainsGiveNext}
use Rattle.scp_theorem.specs.scp_pending.specs.Rules.{reply as reply_to}

-- ---- one answer, one message for all

-- the same is handed out for each link
same_out : (old new : List OutboxView) (f g : ℕ → List Message) → ((link : ℕ) → f link ≡ g link) → HandsOut old f new → HandsOut old g new
same_out old new f g same h = record {
  count = h.count;
  puts = λ link before there. (let p = h.puts link before there in (p.0, p.1, subst (λ (ms : List Message). PutsAll before ms p.0) (same link) p.2));
}

pub hands_to : (old new : List OutboxView) (link : ℕ) (message : Message) → HandsOut old (to_link link message) new → HandsOne old (To link message) new
hands_to old new link message h = same_out old new (to_link link message) (handed_by (To link message ∷ [])) (λ l. sym (append-nil (to_link link message l))) h

pub hands_to_all : (old new : List OutboxView) (e : Enveloped) → HandsOut old (to_each (Envelope (record { value = e }))) new → HandsOne old (ToAll e) new
hands_to_all old new e h = same_out old new (to_each (Envelope (record { value = e }))) (handed_by (ToAll e ∷ [])) (λ l. refl) h

-- of a message in a box
pub all_put_out : (old new : List OutboxView) (e : Enveloped) (b : Boxed) (m : Message) → b.value ≡ e → m ≡ Envelope b → HandsOut old (to_each m) new → HandsOne old (ToAll e) new
all_put_out old new e b m same is h =
    let whole : m ≡ Envelope (record { value = e }) = is ∙ ap (λ (x : Enveloped). Envelope (record { value = x })) same in
    hands_to_all old new e (subst (λ (n : Message). HandsOut old (to_each n) new) whole h)

-- and it fits as that of the statement does
pub box_fits : (e : Enveloped) (b : Boxed) → b.value ≡ e → IsFitting (Envelope (record { value = e })) → IsFitting (Envelope b)
box_fits e b same fits = subst IsFitting (ap (λ (x : Enveloped). Envelope (record { value = x })) (sym same)) fits

pub hands_each : (old new : List OutboxView) (answer : Option (ℕ × Message)) → Hands old answer new → HandsEach old (out_of answer) new
hands_each old new None h = h
hands_each old new (Some answer) h = (new, h, refl)

-- ---- each step

module _ {D : Type 0} (says : Says D) where
  abbrev Puts : NodeView D → Event → NodeView D → Type 0
  Puts old event new = (handed : List Outgoing) × HandedAt says old event handed new × HandsEach old.outboxes handed new.outboxes

module _ {D : Type 0} where
  boxes_stay : (old new w : NodeView D) → w.outboxes ≡ old.outboxes → new ≡ w → new.outboxes ≡ old.outboxes
  boxes_stay old new w same is = ap (λ (v : NodeView D). v.outboxes) is ∙ same

module _ {D : Type 0} (says : Says D) where
  puts_all : (old new : NodeView D) (event : Event) → Moves says old event new → Puts says old event new
  puts_all old new (ReaderTake l) m = ([], refl, boxes_stay old new _ refl m.2.4)
  puts_all old new (ReaderPut l) m = ([], refl, boxes_stay old new _ refl m.2.4)
  puts_all old new PendTake m = elim m.1 [
    | inl b ↦ ([], inl (b, refl), boxes_stay old new _ refl b.is)
    | inr t ↦ (out_of (reply_to old.pending.settled t.x), inr (t, refl), hands_each old.outboxes new.outboxes (reply_to old.pending.settled t.x) t.hands)
  ]
  puts_all old new PendPut m = ([], refl, boxes_stay old new _ refl m.3)
  puts_all old new SlotTake m = (m.1.took.outgoing, (m.1, refl), m.1.hands)
  puts_all old new SlotPut m = ([], refl, boxes_stay old new _ refl m.3)
  puts_all old new ApplyTake m = (out_of m.answer, (m, refl), hands_each old.outboxes new.outboxes m.answer m.hands)
  puts_all old new event m = absurd m

  pub steps_put_all : StepsPutAll says
  steps_put_all = λ old new event s. puts_all old new event s.1

-- ---- each drain

set_same : (xs : List OutboxView) (l : ℕ) (x : OutboxView) → slice_get xs l ≡ Some x → slice_set xs l x ≡ xs
set_same [] l x e = refl
set_same (y ∷ ys) zero x e = cc
set_same (y ∷ ys) (suc l) x e = ap (λ zs. y ∷ zs) (set_same ys l x e)

true_isnt : true ≡ false → ⊥
true_isnt e = cc

module _ {D : Type 0} (says : Says D) where
  drains_next : (old new : NodeView D) (l : ℕ) (reply : Reply) → old.failed ≡ false → Step says old (Drain l) reply new → reply ≢ NoMemory → IsDrained old.outboxes l reply new.outboxes
  drains_next old new l (Sent bytes) runs s ne = (s.1.message, s.1.gives, s.1.spells)
  drains_next old new l Idle runs s ne =
      let o = s.1.0 in
      record { before = o; after' = o; there = s.1.1; gives = s.1.2; is = ap (λ (v : NodeView D). v.outboxes) s.2 ∙ sym (set_same old.outboxes l o s.1.1) }
  drains_next old new l NoLink runs s ne = (s.1, ap (λ (v : NodeView D). v.outboxes) s.2)
  drains_next old new l NoMemory runs s ne = absurd (ne refl)
  drains_next old new l Failed runs s ne = absurd (true_isnt (sym s.0 ∙ runs))
  drains_next old new l JournalFull runs s ne = absurd s.1
  drains_next old new l Accepted runs s ne = absurd s.1
  drains_next old new l Moved runs s ne = absurd s.1
  drains_next old new l reply runs s ne = absurd s.1

  pub drains_give_next : DrainsGiveNext says
  drains_give_next = λ old new l reply runs s ne. drains_next old new l reply runs s ne

-- ---- what the code's branches give

pub on_err : {X Y : Type 0} (P : Type 0) (r : Result X Y) → P → OnErr r P
on_err P (Ok x) p = tt
on_err P (Err y) p = p
