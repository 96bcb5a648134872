-- The steps of the stages, each of two nodes that show the same.
use Rattle.std.proofs.Common.{◌≡◌, ◌≢◌, ℕ, Bool, true, false, List, [], ◌∷◌, ◌++◌, refl, sym, ◌∙◌, ap, subst, inl, inr, append_assoc}
use Rattle.std.specs.Prelude.{◌⊎◌, Option, Some, None, IsSome, option_to_list, slice_get}
use Rattle.std.proofs.lemmas.List.{append-nil}
use Rattle.scp_theorem.specs.scp_driver.specs.Driver.{Says}
use Rattle.scp_theorem.specs.scp_xdr.specs.Kind.{spelling}
use Rattle.scp_theorem.specs.scp_wire.specs.Message.{message_kind, message_value}
use Rattle.scp_theorem.specs.scp_wire.specs.declared.link.Inbound.{Inbound}
use Rattle.scp_theorem.specs.scp_wire.specs.declared.message.Message.{Message}
use Rattle.scp_theorem.specs.scp_outbox.specs.Outbox.{OutboxView}
use Rattle.scp_theorem.specs.scp_outbox.specs.Handing.{GivesNext}
use Rattle.scp_theorem.specs.scp_pending.specs.declared.ready.Ready.{Ready}
use Rattle.scp_theorem.specs.scp_types.specs.declared.names.NodeId.{NodeId}
use Rattle.scp_theorem.specs.scp_pending.specs.Passes.{Passes}
use Rattle.scp_theorem.specs.scp_pending.specs.Pends.{Pends}
use Rattle.scp_theorem.specs.scp_pending.specs.Rules.{PendingView, Settled, taken_in, released_by, fresh, reply as reply_to}
use Rattle.scp_theorem.specs.scp_ledger.specs.Seen.{LedgerView}
use Rattle.scp_theorem.specs.scp_ledger.specs.declared.took.Outgoing.{Outgoing}
use Rattle.scp_theorem.specs.scp_ledger.specs.declared.took.Outgoing.TheVariants.{To}
use Rattle.scp_theorem.specs.scp_apply.specs.Applier.{ApplierView}
use Rattle.scp_core.specs.Flow.{Flows}
use Rattle.scp_core.specs.History.{Past}
use Rattle.scp_theorem.specs.Handed.{handed_by}
use Rattle.scp_core.specs.Node.{NodeView, HandsEach, Hands, Drains, Step}
use Rattle.scp_core.specs.declared.event.Event.TheVariants.{PendTake, Drain}
use Rattle.scp_core.specs.declared.event.Reply.{Reply}
use Rattle.scp_core.specs.declared.event.Reply.TheVariants.{Failed, NoLink, Blocked, Idle, Moved, Sent, NoMemory}
use Rattle.scp_core.proofs.same.Ones.{none_some}
use Rattle.scp_core.proofs.same.Outboxes.{hands_one, gives_one, gives_apart}
use Rattle.scp_core.proofs.same.Quiet.{with_stages, QuietStep}
use Rattle.scp_theorem.proofs.Basics.{some_there}

clash : (b : Bool) → b ≡ false → b ≡ true → ⊥
clash b f t = cc

pub nil_cons : {X : Type 0} (x : X) (xs : List X) → [] ≡ x ∷ xs → ⊥
nil_cons x xs e = cc

pub heads : {X : Type 0} (x y : X) (xs ys : List X) → x ∷ xs ≡ y ∷ ys → x ≡ y
heads x y xs ys e = cc

pub tails : {X : Type 0} (x y : X) (xs ys : List X) → x ∷ xs ≡ y ∷ ys → xs ≡ ys
tails x y xs ys e = cc

-- a Some isn't None, of one option
pub apart : {X : Type 0} (o : Option X) → IsSome o → o ≡ None → ⊥
apart o some none = let x = some_there o some in none_some x.0 (sym none ∙ x.1)

pub each_one : (old : List OutboxView) (out : List Outgoing) (a b : List OutboxView) → HandsEach old out a → HandsEach old out b → a ≡ b
each_one old [] a b x y = x ∙ sym y
each_one old (o ∷ out) a b x y = each_one x.0 out a b x.2 (subst (λ (boxes : List OutboxView). HandsEach boxes out b) (sym (hands_one old (handed_by (o ∷ [])) x.0 y.0 x.1 y.1)) y.2)

pub answer_one : (old : List OutboxView) (answer : Option (ℕ × Message)) (a b : List OutboxView) → Hands old answer a → Hands old answer b → a ≡ b
answer_one old None a b x y = x ∙ sym y
answer_one old (Some answer) a b x y = hands_one old (handed_by (To answer.0 answer.1 ∷ [])) a b x y

-- ---- the pending stage

cancel : {X : Type 0} (xs ys zs : List X) → xs ++ ys ≡ xs ++ zs → ys ≡ zs
cancel [] ys zs e = e
cancel (x ∷ xs) ys zs e = cancel xs ys zs (tails x x (xs ++ ys) (xs ++ zs) e)

-- the first of what is leaving, and the rest
abbrev first_of : List Ready → Option Ready
first_of [] = None
first_of (x ∷ xs) = Some x

abbrev rest_of : List Ready → List Ready
rest_of [] = []
rest_of (x ∷ xs) = xs

popped : (thing : Option Ready) (rest all : List Ready) → all ≡ option_to_list thing ++ rest → (thing ≡ None → rest ≡ []) → (thing ≡ first_of all) × (rest ≡ rest_of all)
popped None rest all e none = (ap first_of (sym (e ∙ none refl)), none refl ∙ ap rest_of (sym (e ∙ none refl)))
popped (Some x) rest all e none = (ap first_of (sym e), ap rest_of (sym e))

module _ {D : Type 0} where
  abbrev leaves : NodeView D → List Ready
  leaves v = v.pending.leaving

  -- what a step of the pending stage came to
  abbrev PendCase : NodeView D → Reply → NodeView D → Type 0
  PendCase v reply new =
      (IsSome v.pend_hand × (reply ≡ Blocked) × (new ≡ v))
      ⊎ ((v.pend_hand ≡ None) × (v.inbox ≡ []) × (leaves v ≡ []) × (reply ≡ Idle) × (new ≡ v))
      ⊎ ((v.pend_hand ≡ None) × (thing : Ready) × (rest : List Ready) × (leaves v ≡ thing ∷ rest) × (reply ≡ Moved) × (new ≡ record v { pending = record v.pending { leaving = rest }; pend_hand = Some thing }))
      ⊎ ((v.pend_hand ≡ None) × (leaves v ≡ []) × (x : Inbound) × (rest : List Inbound) × (v.inbox ≡ x ∷ rest) × (reply ≡ Moved) × Hands v.outboxes (reply_to v.pending.settled x) new.outboxes
      × (new ≡ record v { inbox = rest; pending = record (taken_in v.pending x) { leaving = rest_of (taken_in v.pending x).leaving }; pend_hand = first_of (taken_in v.pending x).leaving; outboxes = new.outboxes }))

left_over : (me : NodeId) (peers : List NodeId) (arrived : List Inbound) (given : List Ready) (old new : PendingView) (out : List Ready) → new.settled ≡ old.settled → Pends me peers arrived given old → Passes (Pends me peers) [] out old new → old.leaving ≡ out ++ new.leaving
left_over me peers arrived given old new out same before passes =
    let now = passes arrived given before in
    cancel given old.leaving (out ++ new.leaving)
    (before.left ∙ ap (λ (s : Settled). released_by (fresh me peers s.store.local) arrived) (sym same) ∙ ap (released_by (fresh me peers new.settled.store.local)) (sym (append-nil arrived)) ∙ sym now.left ∙ append_assoc given out new.leaving)

module _ {D : Type 0} (says : Says D) where
  pend_case : (p : Past) (v new : NodeView D) (reply : Reply) → Flows says p v → reply ≢ NoMemory → Step says v PendTake reply new → PendCase v reply new
  pend_case p v new Failed f memory h = absurd (clash v.failed f.runs h.0)
  pend_case p v new Blocked f memory h = inl (h.1, refl, h.2)
  pend_case p v new Idle f memory h = inr (inl (h.1.0, h.1.1, (h.1.2 v.config.me v.config.peers f.arrived f.given f.pending).nothing_ready, refl, h.2))
  pend_case p v new Moved f memory h = elim h.1.1 [
    | inl b ↦ inr (inr (inl (
      h.1.0,
      b.thing,
      b.after'.leaving,
      left_over v.config.me v.config.peers f.arrived f.given v.pending b.after' (b.thing ∷ []) (ap (λ (q : PendingView). q.settled) b.same) f.pending (b.passes v.config.me v.config.peers),
      refl,
      b.is ∙ ap (λ (q : PendingView). record v { pending = q; pend_hand = Some b.thing }) b.same,
    )))
    | inr t ↦ (
        let between = t.takes v.config.me v.config.peers f.arrived f.given f.pending in
        let now = t.gives v.config.me v.config.peers (f.arrived ++ t.x ∷ []) (f.given ++ []) between in
        let left : t.between.leaving ≡ option_to_list t.thing ++ t.after'.leaving = left_over v.config.me v.config.peers (f.arrived ++ t.x ∷ []) (f.given ++ []) t.between t.after' (option_to_list t.thing) (ap (λ (q : PendingView). q.settled) t.same) between (t.gives v.config.me v.config.peers) in
        let pop = popped t.thing t.after'.leaving t.between.leaving left (λ none. (t.no_thing none v.config.me v.config.peers ((f.arrived ++ t.x ∷ []) ++ []) ((f.given ++ []) ++ option_to_list t.thing) now).nothing_ready) in
        let pending : t.after' ≡ record (taken_in v.pending t.x) { leaving = rest_of (taken_in v.pending t.x).leaving } = t.same ∙ ap (λ (xs : List Ready). record t.between { leaving = xs }) pop.1 ∙ ap (λ (q : PendingView). record q { leaving = rest_of q.leaving }) t.rules in
        let hand : t.thing ≡ first_of (taken_in v.pending t.x).leaving = pop.0 ∙ ap (λ (q : PendingView). first_of q.leaving) t.rules in
        inr (inr (inr (
          h.1.0,
          (t.nothing_ready v.config.me v.config.peers f.arrived f.given f.pending).nothing_ready,
          t.x,
          t.rest,
          t.inbox,
          refl,
          t.hands,
          t.is ∙ (λ i. record v { inbox = t.rest; pending = pending i; pend_hand = hand i; outboxes = new.outboxes }),
        ))))
  ]
  pend_case p v new NoMemory f memory h = absurd (memory refl)
  pend_case p v new reply f memory h = absurd h.1

  module _ (v : NodeView D) (ledger : LedgerView D) (applier : ApplierView) (reply other : Reply) (new there : NodeView D) where
    abbrev u : NodeView D
    u = with_stages v ledger applier

    built : (f : NodeView D) → f.ledger ≡ v.ledger → f.applier ≡ v.applier → reply ≡ other → new ≡ f → there ≡ with_stages f ledger applier → QuietStep v ledger applier reply other new there
    built f same_ledger same_applier same x y = record {
      same = same;
      alike = y ∙ ap (λ (z : NodeView D). with_stages z ledger applier) (sym x);
      ledger_is = ap (λ (z : NodeView D). z.ledger) x ∙ same_ledger;
      applier_is = ap (λ (z : NodeView D). z.applier) x ∙ same_applier;
    }

    pend_one : PendCase v reply new → PendCase u other there → QuietStep v ledger applier reply other new there
    pend_one x y = elim x [
      | inl a ↦ elim y [
        | inl b ↦ built v refl refl (a.1 ∙ sym b.1) a.2 b.2
        | inr y2 ↦ elim y2 [
          | inl b ↦ absurd (apart v.pend_hand a.0 b.0)
          | inr y3 ↦ elim y3 [
            | inl b ↦ absurd (apart v.pend_hand a.0 b.0)
            | inr b ↦ absurd (apart v.pend_hand a.0 b.0)
          ]
        ]
      ]
      | inr x2 ↦ elim x2 [
        | inl a ↦ elim y [
          | inl b ↦ absurd (apart v.pend_hand b.0 a.0)
          | inr y2 ↦ elim y2 [
            | inl b ↦ built v refl refl (a.3 ∙ sym b.3) a.4 b.4
            | inr y3 ↦ elim y3 [
              | inl b ↦ absurd (nil_cons b.1 b.2 (sym a.2 ∙ b.3))
              | inr b ↦ absurd (nil_cons b.2 b.3 (sym a.1 ∙ b.4))
            ]
          ]
        ]
        | inr x3 ↦ elim x3 [
          | inl a ↦ elim y [
            | inl b ↦ absurd (apart v.pend_hand b.0 a.0)
            | inr y2 ↦ elim y2 [
              | inl b ↦ absurd (nil_cons a.1 a.2 (sym b.2 ∙ a.3))
              | inr y3 ↦ elim y3 [
                | inl b ↦ (
                    let thing : a.1 ≡ b.1 = heads a.1 b.1 a.2 b.2 (sym a.3 ∙ b.3) in
                    let rest : a.2 ≡ b.2 = tails a.1 b.1 a.2 b.2 (sym a.3 ∙ b.3) in
                    built (record v { pending = record v.pending { leaving = a.2 }; pend_hand = Some a.1 }) refl refl (a.4 ∙ sym b.4) a.5
                    (b.5 ∙ (λ i. record u { pending = record v.pending { leaving = sym rest i }; pend_hand = Some (sym thing i) })))
                | inr b ↦ absurd (nil_cons a.1 a.2 (sym b.1 ∙ a.3))
              ]
            ]
          ]
          | inr a ↦ elim y [
            | inl b ↦ absurd (apart v.pend_hand b.0 a.0)
            | inr y2 ↦ elim y2 [
              | inl b ↦ absurd (nil_cons a.2 a.3 (sym b.1 ∙ a.4))
              | inr y3 ↦ elim y3 [
                | inl b ↦ absurd (nil_cons b.1 b.2 (sym a.1 ∙ b.3))
                | inr b ↦ (
                    let x : a.2 ≡ b.2 = heads a.2 b.2 a.3 b.3 (sym a.4 ∙ b.4) in
                    let rest : a.3 ≡ b.3 = tails a.2 b.2 a.3 b.3 (sym a.4 ∙ b.4) in
                    let boxes : new.outboxes ≡ there.outboxes = answer_one v.outboxes (reply_to v.pending.settled a.2) new.outboxes there.outboxes a.6 (subst (λ (z : Inbound). Hands v.outboxes (reply_to v.pending.settled z) there.outboxes) (sym x) b.6) in
                    built (record v { inbox = a.3; pending = record (taken_in v.pending a.2) { leaving = rest_of (taken_in v.pending a.2).leaving }; pend_hand = first_of (taken_in v.pending a.2).leaving; outboxes = new.outboxes }) refl refl (a.5 ∙ sym b.5) a.7
                    (b.7 ∙ (λ i. record u { inbox = sym rest i; pending = record (taken_in v.pending (sym x i)) { leaving = rest_of (taken_in v.pending (sym x i)).leaving }; pend_hand = first_of (taken_in v.pending (sym x i)).leaving; outboxes = sym boxes i })))
              ]
            ]
          ]
        ]
      ]
    ]

    pub takes_alike : (p : Past) → Flows says p v → Flows says p u → reply ≢ NoMemory → other ≢ NoMemory → Step says v PendTake reply new → Step says u PendTake other there → QuietStep v ledger applier reply other new there
    takes_alike p f g memory enough x y = pend_one (pend_case p v new reply f memory x) (pend_case p u there other g enough y)

-- ---- drains

module _ {D : Type 0} where
  abbrev DrainCase : NodeView D → ℕ → Reply → NodeView D → Type 0
  DrainCase v l reply new =
      ((slice_get v.outboxes l ≡ None) × (reply ≡ NoLink) × (new ≡ v))
      ⊎ ((o : OutboxView) × (slice_get v.outboxes l ≡ Some o) × GivesNext o None o × (reply ≡ Idle) × (new ≡ v))
      ⊎ ((bytes : List ℕ) × (reply ≡ Sent bytes) × Drains v l bytes new)

module _ {D : Type 0} (says : Says D) where
  drain_case : (v new : NodeView D) (l : ℕ) (reply : Reply) → v.failed ≡ false → reply ≢ NoMemory → Step says v (Drain l) reply new → DrainCase v l reply new
  drain_case v new l Failed runs memory h = absurd (clash v.failed runs h.0)
  drain_case v new l NoLink runs memory h = inl (h.1, refl, h.2)
  drain_case v new l Idle runs memory h = inr (inl (h.1.0, h.1.1, h.1.2, refl, h.2))
  drain_case v new l (Sent bytes) runs memory h = inr (inr (bytes, refl, h.1))
  drain_case v new l NoMemory runs memory h = absurd (memory refl)
  drain_case v new l reply runs memory h = absurd h.1

  module _ (v : NodeView D) (ledger : LedgerView D) (applier : ApplierView) (reply other : Reply) (new there : NodeView D) where
    abbrev beside : NodeView D
    beside = with_stages v ledger applier

    drain_one : (l : ℕ) → DrainCase v l reply new → DrainCase beside l other there → QuietStep v ledger applier reply other new there
    drain_one l x y = elim x [
      | inl a ↦ elim y [
        | inl b ↦ built says v ledger applier reply other new there v refl refl (a.1 ∙ sym b.1) a.2 b.2
        | inr y2 ↦ elim y2 [
          | inl b ↦ absurd (none_some b.0 (sym a.0 ∙ b.1))
          | inr b ↦ absurd (none_some b.2.gives.before (sym a.0 ∙ b.2.gives.there))
        ]
      ]
      | inr x2 ↦ elim x2 [
        | inl a ↦ elim y [
          | inl b ↦ absurd (none_some a.0 (sym b.0 ∙ a.1))
          | inr y2 ↦ elim y2 [
            | inl b ↦ built says v ledger applier reply other new there v refl refl (a.3 ∙ sym b.3) a.4 b.4
            | inr b ↦ absurd (gives_apart v.outboxes l b.2.message there.outboxes a.0 b.2.gives a.1 a.2)
          ]
        ]
        | inr a ↦ elim y [
          | inl b ↦ absurd (none_some a.2.gives.before (sym b.0 ∙ a.2.gives.there))
          | inr y2 ↦ elim y2 [
            | inl b ↦ absurd (gives_apart v.outboxes l a.2.message new.outboxes b.0 a.2.gives b.1 b.2)
            | inr b ↦ (
                let one = gives_one v.outboxes l a.2.message b.2.message new.outboxes there.outboxes a.2.gives b.2.gives in
                let bytes : a.0 ≡ b.0 = a.2.spells.spells.spelt ∙ ap (λ (m : Message). spelling message_kind (message_value m)) one.0 ∙ sym b.2.spells.spells.spelt in
                built says v ledger applier reply other new there (record v { outboxes = new.outboxes }) refl refl (a.1 ∙ ap Sent bytes ∙ sym b.1) a.2.is
                (b.2.is ∙ (λ i. record beside { outboxes = sym one.1 i })))
          ]
        ]
      ]
    ]

    pub drains_alike : (l : ℕ) → v.failed ≡ false → reply ≢ NoMemory → other ≢ NoMemory → Step says v (Drain l) reply new → Step says beside (Drain l) other there → QuietStep v ledger applier reply other new there
    drains_alike l runs memory enough x y = drain_one l (drain_case v new l reply runs memory x) (drain_case beside there l other runs enough y)
