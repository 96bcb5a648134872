-- A node in whose turn nothing moved is at rest.
use Rattle.std.proofs.Common.{◌≡◌, ◌≢◌, ◌<◌, ◌≤◌, ℕ, zero, suc, Bool, true, false, List, [], ◌∷◌, Option, None, Some, length, sym, ◌∙◌, ap, subst, arith, ⊎_elim}
use Rattle.std.specs.Prelude.{IsSome, slice_get}
use Rattle.std.specs.List.{AllByRecursion}
use Rattle.std.specs.Prelude.{min}
use Rattle.std.proofs.lemmas.Bool.{cases_eq}
use Rattle.std.proofs.Math.Nat.{min-eq_left}
use Rattle.std.proofs.lemmas.Option.{slice_get_within}
use Rattle.scp_core.specs.scp_driver.specs.Driver.{Says}
use Rattle.scp_core.specs.scp_pending.specs.Pends.{IsIdle}
use Rattle.scp_core.specs.declared.event.Event.{Event}
use Rattle.scp_core.specs.declared.event.Event.TheVariants as event
use Rattle.scp_core.specs.declared.event.Reply.{Reply}
use Rattle.scp_core.specs.declared.event.Reply.TheVariants as reply
use Rattle.scp_core.specs.History.{Exchange, past_of}
use Rattle.scp_core.specs.Flow.{Flows}
use Rattle.scp_core.specs.Node.{LinkView, NodeView, Refuses, Step}
use Rattle.scp_turn.specs.Turn.{Does, links_of, IsStill, IsStillReply, events_of, reader_events, stage_events}
use Rattle.scp_turn.specs.Laws.{IsAtRest, StillIsAtRest}
use Rattle.scp_core.specs.scp_types.specs.declared.limits.TheConstants.{LINK_LIMIT}
use Rattle.scp_turn.specs.inside.Acting.{IsStage}
use Rattle.scp_turn.proofs.Going.{all_on, all_apart}

-- ---- a still step

module _ {D : Type 0} where
  -- the node refuses the event, with some reply
  abbrev Refused : NodeView D → Event → Type 0
  Refused v e = (r : Reply) × Refuses v e r

  -- what a still step of a node that didn't fail says
  abbrev Quiet : NodeView D → Event → NodeView D → Type 0
  Quiet v e w = (v.failed ≡ false) × (w ≡ v) × Refused v e

both_ways : (b : Bool) (P : Type 0) → b ≡ true → b ≡ false → P
both_ways true P t f = absurd cc
both_ways false P t f = absurd cc

module _ {D : Type 0} (says : Says D) where
  not_accepted : (v w : NodeView D) (e : Event) (P : Type 0) → IsStage e → Step says v e reply.Accepted w → P
  not_accepted v w (event.Open l) P stage s = absurd stage
  not_accepted v w (event.Send l bytes) P stage s = absurd stage
  not_accepted v w (event.Close l) P stage s = absurd stage
  not_accepted v w (event.Local command) P stage s = absurd stage
  not_accepted v w (event.ReaderTake l) P stage s = absurd s.1
  not_accepted v w (event.ReaderPut l) P stage s = absurd s.1
  not_accepted v w event.PendTake P stage s = absurd s.1
  not_accepted v w event.PendPut P stage s = absurd s.1
  not_accepted v w event.SlotTake P stage s = absurd s.1
  not_accepted v w event.SlotPut P stage s = absurd s.1
  not_accepted v w event.ApplyTake P stage s = absurd s.1
  not_accepted v w (event.Drain l) P stage s = absurd stage

  still_step : (v w : NodeView D) (e : Event) (r : Reply) → IsStage e → IsStillReply r → Step says v e r w → w.failed ≡ false → Quiet v e w
  still_step v w e reply.Failed stage still s run = both_ways v.failed (Quiet v e w) s.0 (sym (ap (λ (u : NodeView D). u.failed) s.1) ∙ run)
  still_step v w e reply.NoLink stage still s run = (s.0, s.2, (reply.NoLink, s.1))
  still_step v w e reply.AlreadyOpen stage still s run = (s.0, s.2, (reply.AlreadyOpen, s.1))
  still_step v w e reply.LivesSpent stage still s run = (s.0, s.2, (reply.LivesSpent, s.1))
  still_step v w e reply.NotOpen stage still s run = (s.0, s.2, (reply.NotOpen, s.1))
  still_step v w e reply.Full stage still s run = (s.0, s.2, (reply.Full, s.1))
  still_step v w e reply.Accepted stage still s run = not_accepted v w e (Quiet v e w) stage s
  still_step v w e reply.Blocked stage still s run = (s.0, s.2, (reply.Blocked, s.1))
  still_step v w e reply.Idle stage still s run = (s.0, s.2, (reply.Idle, s.1))
  still_step v w e reply.Moved stage still s run = absurd still
  still_step v w e (reply.Sent bytes) stage still s run = absurd still
  still_step v w e reply.JournalFull stage still s run = both_ways w.failed (Quiet v e w) s.0.failed run
  still_step v w e reply.NoMemory stage still s run = both_ways w.failed (Quiet v e w) s.0.failed run

  -- ---- a still turn

  still_steps : (heard : List Exchange) (a b : NodeView D) → Does says a heard b → AllByRecursion IsStage (events_of heard) → IsStill heard → b.failed ≡ false → (a.failed ≡ false) × (b ≡ a) × AllByRecursion (Refused a) (events_of heard)
  still_steps [] a b does stages still run = (subst (λ (v : NodeView D). v.failed ≡ false) does run, does, tt)
  still_steps (x ∷ heard) a b does stages still run =
      let rest = still_steps heard does.0 b does.2 stages.1 still.1 run in
      let one = still_step a does.0 x.0 x.1 stages.0 still.0 does.1 rest.0 in (
        one.0,
        rest.1 ∙ one.1,
        (one.2, subst (λ (v : NodeView D). AllByRecursion (Refused v) (events_of heard)) one.1 rest.2),
      )

readers_are_stages : (links : ℕ) → AllByRecursion IsStage (reader_events links)
readers_are_stages zero = tt
readers_are_stages (suc link) = all_on IsStage (reader_events link) (event.ReaderTake link ∷ event.ReaderPut link ∷ []) (readers_are_stages link) (tt, (tt, tt))

are_stages : (links : ℕ) → AllByRecursion IsStage (stage_events links)
are_stages links = all_on IsStage (reader_events links) (event.PendTake ∷ event.PendPut ∷ event.SlotTake ∷ event.SlotPut ∷ event.ApplyTake ∷ []) (readers_are_stages links) (tt, (tt, (tt, (tt, (tt, tt)))))

reader_at : (P : Event → Type 0) (links l : ℕ) → l < links → AllByRecursion P (reader_events links) → P (event.ReaderTake l) × P (event.ReaderPut l)
reader_at P zero l lt all = absurd (omega (arith, lt))
reader_at P (suc link) l lt all =
    let parts = all_apart P (reader_events link) (event.ReaderTake link ∷ event.ReaderPut link ∷ []) all in
    ⊎_elim
    (λ (e : l ≡ link). subst (λ (k : ℕ). P (event.ReaderTake k) × P (event.ReaderPut k)) (sym e) (parts.1.0, parts.1.1.0))
    (λ (apart : l ≢ link). reader_at P link l (omega (arith, lt, apart)) parts.0)
    (cases_eq l link)

-- ---- what each refusal says

not_full : {X : Type 0} (xs : List X) (room : ℕ) → xs ≡ [] → 1 ≤ room → length xs ≡ room → ⊥
not_full xs room is some full = let none : length xs ≡ 0 = ap (λ ys. length ys) is in absurd (omega (arith, none, some, full))

not_some : {X : Type 0} (o : Option X) (P : Type 0) → o ≡ None → IsSome o → P
not_some {X} o P none some = let e : IsSome {T = X} None = subst (λ x. IsSome {T = X} x) none some in absurd cc

module _ {D : Type 0} where
  nothing_decided : (v : NodeView D) (r : Reply) → Refuses v event.ApplyTake r → v.decided ≡ []
  nothing_decided v reply.Failed p = absurd p
  nothing_decided v reply.NoLink p = absurd p
  nothing_decided v reply.AlreadyOpen p = absurd p
  nothing_decided v reply.LivesSpent p = absurd p
  nothing_decided v reply.NotOpen p = absurd p
  nothing_decided v reply.Full p = absurd p
  nothing_decided v reply.Accepted p = absurd p
  nothing_decided v reply.Blocked p = absurd p
  nothing_decided v reply.Idle p = p
  nothing_decided v reply.Moved p = absurd p
  nothing_decided v (reply.Sent bytes) p = absurd p
  nothing_decided v reply.JournalFull p = absurd p
  nothing_decided v reply.NoMemory p = absurd p

  slot_hand_empty : (v : NodeView D) (r : Reply) → Refuses v event.SlotPut r → v.decided ≡ [] → 1 ≤ v.decided_room → v.slot_hand ≡ None
  slot_hand_empty v reply.Failed p none some = absurd p
  slot_hand_empty v reply.NoLink p none some = absurd p
  slot_hand_empty v reply.AlreadyOpen p none some = absurd p
  slot_hand_empty v reply.LivesSpent p none some = absurd p
  slot_hand_empty v reply.NotOpen p none some = absurd p
  slot_hand_empty v reply.Full p none some = absurd p
  slot_hand_empty v reply.Accepted p none some = absurd p
  slot_hand_empty v reply.Blocked p none some = absurd (not_full v.decided v.decided_room none some p.1)
  slot_hand_empty v reply.Idle p none some = p
  slot_hand_empty v reply.Moved p none some = absurd p
  slot_hand_empty v (reply.Sent bytes) p none some = absurd p
  slot_hand_empty v reply.JournalFull p none some = absurd p
  slot_hand_empty v reply.NoMemory p none some = absurd p

  nothing_ready : (v : NodeView D) (r : Reply) → Refuses v event.SlotTake r → v.slot_hand ≡ None → v.ready ≡ []
  nothing_ready v reply.Failed p none = absurd p
  nothing_ready v reply.NoLink p none = absurd p
  nothing_ready v reply.AlreadyOpen p none = absurd p
  nothing_ready v reply.LivesSpent p none = absurd p
  nothing_ready v reply.NotOpen p none = absurd p
  nothing_ready v reply.Full p none = absurd p
  nothing_ready v reply.Accepted p none = absurd p
  nothing_ready v reply.Blocked p none = not_some v.slot_hand (v.ready ≡ []) none p
  nothing_ready v reply.Idle p none = p.1
  nothing_ready v reply.Moved p none = absurd p
  nothing_ready v (reply.Sent bytes) p none = absurd p
  nothing_ready v reply.JournalFull p none = absurd p
  nothing_ready v reply.NoMemory p none = absurd p

  pend_hand_empty : (v : NodeView D) (r : Reply) → Refuses v event.PendPut r → v.ready ≡ [] → 1 ≤ v.ready_room → v.pend_hand ≡ None
  pend_hand_empty v reply.Failed p none some = absurd p
  pend_hand_empty v reply.NoLink p none some = absurd p
  pend_hand_empty v reply.AlreadyOpen p none some = absurd p
  pend_hand_empty v reply.LivesSpent p none some = absurd p
  pend_hand_empty v reply.NotOpen p none some = absurd p
  pend_hand_empty v reply.Full p none some = absurd p
  pend_hand_empty v reply.Accepted p none some = absurd p
  pend_hand_empty v reply.Blocked p none some = absurd (not_full v.ready v.ready_room none some p.1)
  pend_hand_empty v reply.Idle p none some = p
  pend_hand_empty v reply.Moved p none some = absurd p
  pend_hand_empty v (reply.Sent bytes) p none some = absurd p
  pend_hand_empty v reply.JournalFull p none some = absurd p
  pend_hand_empty v reply.NoMemory p none some = absurd p

  nothing_pending : (v : NodeView D) (r : Reply) → Refuses v event.PendTake r → v.pend_hand ≡ None → (v.inbox ≡ []) × IsIdle v.pending
  nothing_pending v reply.Failed p none = absurd p
  nothing_pending v reply.NoLink p none = absurd p
  nothing_pending v reply.AlreadyOpen p none = absurd p
  nothing_pending v reply.LivesSpent p none = absurd p
  nothing_pending v reply.NotOpen p none = absurd p
  nothing_pending v reply.Full p none = absurd p
  nothing_pending v reply.Accepted p none = absurd p
  nothing_pending v reply.Blocked p none = not_some v.pend_hand ((v.inbox ≡ []) × IsIdle v.pending) none p
  nothing_pending v reply.Idle p none = (p.1, p.2)
  nothing_pending v reply.Moved p none = absurd p
  nothing_pending v (reply.Sent bytes) p none = absurd p
  nothing_pending v reply.JournalFull p none = absurd p
  nothing_pending v reply.NoMemory p none = absurd p

there : {X : Type 0} (o : Option X) (x y : X) → o ≡ Some x → o ≡ Some y → x ≡ y
there o x y p q = cc

nowhere : {X : Type 0} (o : Option X) (x : X) (P : Type 0) → o ≡ Some x → o ≡ None → P
nowhere o x P p q = absurd cc

module _ {D : Type 0} where
  hand_empty : (v : NodeView D) (r : Reply) (l : ℕ) (k : LinkView) → Refuses v (event.ReaderPut l) r → slice_get v.links l ≡ Some k → v.inbox ≡ [] → 1 ≤ v.inbox_room → k.hand ≡ []
  hand_empty v reply.Failed l k p at none some = absurd p
  hand_empty v reply.NoLink l k p at none some = nowhere (slice_get v.links l) k (k.hand ≡ []) at p
  hand_empty v reply.AlreadyOpen l k p at none some = absurd p
  hand_empty v reply.LivesSpent l k p at none some = absurd p
  hand_empty v reply.NotOpen l k p at none some = absurd p
  hand_empty v reply.Full l k p at none some = absurd p
  hand_empty v reply.Accepted l k p at none some = absurd p
  hand_empty v reply.Blocked l k p at none some = absurd (not_full v.inbox v.inbox_room none some p.2.1)
  hand_empty v reply.Idle l k p at none some = ap (λ (x : LinkView). x.hand) (there (slice_get v.links l) k p.0 at p.1) ∙ p.2
  hand_empty v reply.Moved l k p at none some = absurd p
  hand_empty v (reply.Sent bytes) l k p at none some = absurd p
  hand_empty v reply.JournalFull l k p at none some = absurd p
  hand_empty v reply.NoMemory l k p at none some = absurd p

  queue_empty : (v : NodeView D) (r : Reply) (l : ℕ) (k : LinkView) → Refuses v (event.ReaderTake l) r → slice_get v.links l ≡ Some k → k.hand ≡ [] → k.queue ≡ []
  queue_empty v reply.Failed l k p at none = absurd p
  queue_empty v reply.NoLink l k p at none = nowhere (slice_get v.links l) k (k.queue ≡ []) at p
  queue_empty v reply.AlreadyOpen l k p at none = absurd p
  queue_empty v reply.LivesSpent l k p at none = absurd p
  queue_empty v reply.NotOpen l k p at none = absurd p
  queue_empty v reply.Full l k p at none = absurd p
  queue_empty v reply.Accepted l k p at none = absurd p
  queue_empty v reply.Blocked l k p at none = absurd (p.2 (ap (λ (x : LinkView). x.hand) (there (slice_get v.links l) p.0 k p.1 at) ∙ none))
  queue_empty v reply.Idle l k p at none = ap (λ (x : LinkView). x.queue) (there (slice_get v.links l) k p.0 at p.1) ∙ p.2.1
  queue_empty v reply.Moved l k p at none = absurd p
  queue_empty v (reply.Sent bytes) l k p at none = absurd p
  queue_empty v reply.JournalFull l k p at none = absurd p
  queue_empty v reply.NoMemory l k p at none = absurd p

-- ---- from the applier back to the links

few_links : (n most : ℕ) → n ≤ most → min n most ≡ n
few_links n most few = min-eq_left few

module _ {D : Type 0} where
  at_rest : (v : NodeView D) (links : ℕ) → length v.links ≡ links → 1 ≤ v.inbox_room → 1 ≤ v.ready_room → 1 ≤ v.decided_room → AllByRecursion (Refused v) (stage_events links) → IsAtRest v
  at_rest v links count inbox_room ready_room decided_room all =
      let parts = all_apart (Refused v) (reader_events links) (event.PendTake ∷ event.PendPut ∷ event.SlotTake ∷ event.SlotPut ∷ event.ApplyTake ∷ []) all in
      let pend_take = parts.1.0 in
      let pend_put = parts.1.1.0 in
      let slot_take = parts.1.1.1.0 in
      let slot_put = parts.1.1.1.1.0 in
      let apply_take = parts.1.1.1.1.1.0 in
      let decided = nothing_decided v apply_take.0 apply_take.1 in
      let slot_hand = slot_hand_empty v slot_put.0 slot_put.1 decided decided_room in
      let ready = nothing_ready v slot_take.0 slot_take.1 slot_hand in
      let pend_hand = pend_hand_empty v pend_put.0 pend_put.1 ready ready_room in
      let pended = nothing_pending v pend_take.0 pend_take.1 pend_hand in
      let reads = λ (l : ℕ) (k : LinkView) (at : slice_get v.links l ≡ Some k). reader_at (Refused v) links l (omega (arith, slice_get_within v.links l k at, count)) parts.0 in
      let hands = λ (l : ℕ) (k : LinkView) (at : slice_get v.links l ≡ Some k). hand_empty v (reads l k at).1.0 l k (reads l k at).1.1 at pended.0 inbox_room in
      record {
        queues = λ l k at. queue_empty v (reads l k at).0.0 l k (reads l k at).0.1 at (hands l k at);
        hands = hands;
        inbox = pended.0;
        pending = pended.1;
        pend_hand = pend_hand;
        ready = ready;
        slot_hand = slot_hand;
        decided = decided;
      }

module _ {D : Type 0} (says : Says D) where
  pub still_is_at_rest : StillIsAtRest says
  still_is_at_rest past a b heard theorem is does turn still run =
      let range = is.fit.in_range in
      let links : links_of a ≡ length a.config.peers = few_links (length a.config.peers) LINK_LIMIT is.fit.few in
      let stages = subst (λ (events : List Event). AllByRecursion IsStage events) (sym turn) (are_stages (links_of a)) in
      let quiet = still_steps says heard a b does stages still run in
      let flows : Flows says (past_of a.config past) a = subst (λ (v : NodeView D). Flows says (past_of a.config past) v) (sym (theorem.now quiet.0)) theorem.flows in
      let refused = subst (λ (events : List Event). AllByRecursion (Refused a) events) turn quiet.2 in (
        at_rest a (links_of a) (flows.count ∙ sym links)
            (omega (arith, flows.rooms.0, range.1.0)) (omega (arith, flows.rooms.1, range.2.0)) (omega (arith, flows.rooms.2, range.3.0)) refused,
        quiet.1,
      )
