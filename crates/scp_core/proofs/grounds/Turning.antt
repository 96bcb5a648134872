-- All that went out of a node since it was made, step by step.
use Rattle.std.proofs.Common.{◌≡◌, ℕ, Bool, true, false, List, [], ◌∷◌, ◌++◌, refl, sym, ◌∙◌, ap, subst, append_assoc, append-nil, take, drop, inl, inr}
use Rattle.std.specs.Prelude.{Option, Some, None, flat_map, length, replicate, option_to_list, nat_eq, slice_set, if◌then◌else◌}
use Rattle.std.specs.List.{AllZip}
use Rattle.std.proofs.lemmas.Grind.{flat_map-append}
use Rattle.std.proofs.lemmas.List.{map-append}
use Rattle.scp_theorem.specs.scp_driver.specs.Driver.{Says}
use Rattle.scp_theorem.specs.scp_quorum.specs.QuorumTree.{QuorumTree}
use Rattle.scp_theorem.specs.scp_wire.specs.declared.link.Inbound.{Inbound}
use Rattle.scp_theorem.specs.scp_wire.specs.declared.link.Inbound.TheVariants as inbound
use Rattle.scp_theorem.specs.scp_wire.specs.declared.message.Message.{Message}
use Rattle.scp_theorem.specs.scp_wire.specs.Message.{message_value, SpellsMessage}
use Rattle.scp_theorem.specs.scp_outbox.specs.Outbox.{OutboxView}
use Rattle.scp_theorem.specs.scp_outbox.specs.Handing.{empty_outbox}
use Rattle.scp_theorem.specs.scp_pending.specs.declared.ready.Ready.{Ready}
use Rattle.scp_theorem.specs.scp_pending.specs.Pends.{Pends, start_of as started}
use Rattle.scp_theorem.specs.scp_pending.specs.Rules.{PendingView, Settled, fresh, rules, reply as reply_to, settled_by}
use Rattle.scp_theorem.specs.scp_ledger.specs.declared.took.Onward.{Onward}
use Rattle.scp_theorem.specs.scp_ledger.specs.declared.took.Outgoing.{Outgoing}
use Rattle.scp_theorem.specs.scp_ledger.specs.Runs.{Taking, thing_of, things, onward_of, onwards_of, nothing_taken}
use Rattle.scp_theorem.specs.scp_ledger.specs.Seen.{LedgerView}
use Rattle.scp_theorem.specs.scp_apply.specs.Applier.{ApplierView}
use Rattle.scp_theorem.specs.Grounds.{start_of}
use Rattle.scp_theorem.specs.Handed.{out_of, replies_from, out_by, outs_of, Serves, ServesEach, nothing_applied, Answers, AnswersEach}
use Rattle.scp_theorem.proofs.Basics.{there_is, true_isnt}
use Rattle.scp_theorem.proofs.Serving.{serves_one, answers_one}
use Rattle.scp_core.specs.declared.config.Config.{Config}
use Rattle.scp_core.specs.declared.event.Event.{Event}
use Rattle.scp_core.specs.declared.event.Event.TheVariants.{Open, Send, Close, Local, ReaderTake, ReaderPut, PendTake, PendPut, SlotTake, SlotPut, ApplyTake, Drain}
use Rattle.scp_core.specs.declared.event.Reply.{Reply}
use Rattle.scp_core.specs.declared.event.Reply.TheVariants.{Failed, NoLink, AlreadyOpen, LivesSpent, NotOpen, Full, Accepted, Blocked, Idle, Moved, Sent, JournalFull, NoMemory}
use Rattle.scp_core.specs.Flow.{IsOnWay, Flows}
use Rattle.scp_core.specs.Handed.{Move, replied, said, answered, gave, replies_in, sayings_in, answers_in, given_over, MovesOne, MovesEach}
use Rattle.scp_core.specs.History.{Past, accepts, moves, hears, readings_of}
use Rattle.scp_core.specs.Node.{NodeView, said_in, PendBrings, PendTakes, SlotTakes, ApplyTakes, Accepts, Moves, SendsOut, Step, Fails}
use Rattle.scp_core.specs.Theorem.{IsReply}
use Rattle.scp_core.specs.Sent.{who_of, sent_by}
use Rattle.scp_core.proofs.StageLaws.{Laws}
use Rattle.scp_core.proofs.Links.{hand_cut}
use Rattle.scp_core.proofs.Putting.{hands_each}
use Rattle.scp_core.proofs.Queues.{within, way-fill, way-put, way-take}
use Rattle.scp_core.proofs.grounds.Stepping.{IsQuiet, quiet}

-- ---- one move more

-- what a move has, after what those before it have
move_more : {X : Type 0} (f : Move → List X) (turns : List Move) (move : Move) → flat_map f (turns ++ move ∷ []) ≡ flat_map f turns ++ f move
move_more f turns move = flat_map-append f turns (move ∷ []) ∙ ap (λ ys. flat_map f turns ++ ys) (append-nil (f move))

-- a move that has nothing of it
move_none : {X : Type 0} (f : Move → List X) (turns : List Move) (move : Move) → f move ≡ [] → flat_map f (turns ++ move ∷ []) ≡ flat_map f turns
move_none f turns move none = move_more f turns move ∙ ap (λ ys. flat_map f turns ++ ys) none ∙ append-nil (flat_map f turns)

moves_one : (old between new : List OutboxView) (turns : List Move) (move : Move) → MovesEach old turns between → MovesOne between move new → MovesEach old (turns ++ move ∷ []) new
moves_one old between new [] move each one = (new, subst (λ (boxes : List OutboxView). MovesOne boxes move new) each one, refl)
moves_one old between new (turn ∷ turns) move each one = (each.0, each.1, moves_one each.0 between new turns move each.2 one)

abbrev Spells : List ℕ → Message → Type 0
Spells bytes m = SpellsMessage bytes (message_value m)

spells_one : (sent : List (List ℕ)) (given : List Message) (bytes : List ℕ) (m : Message) → AllZip Spells sent given → SpellsMessage bytes (message_value m) → AllZip Spells (sent ++ bytes ∷ []) (given ++ m ∷ [])
spells_one [] [] bytes m all one = (one, tt)
spells_one [] (n ∷ given) bytes m all one = absurd all
spells_one (b ∷ sent) [] bytes m all one = absurd all
spells_one (b ∷ sent) (n ∷ given) bytes m all one = (all.0, spells_one sent given bytes m all.1 one)

-- a drain sends on its link alone
spells_on : (here : Bool) (sent : List (List ℕ)) (given : List Message) (bytes : List ℕ) (m : Message) → AllZip Spells sent given → SpellsMessage bytes (message_value m) → AllZip Spells (sent ++ (if here then bytes ∷ [] else [])) (given ++ (if here then m ∷ [] else []))
spells_on true sent given bytes m all one = spells_one sent given bytes m all one
spells_on false sent given bytes m all one =
    subst (λ (bs : List (List ℕ)). AllZip Spells bs (given ++ [])) (sym (append-nil sent))
    (subst (λ (ms : List Message). AllZip Spells sent ms) (sym (append-nil given)) all)

-- the reply to the last item comes at last
replies_more : (s : Settled) (took : List Inbound) (x : Inbound) → replies_from s (took ++ x ∷ []) ≡ replies_from s took ++ out_of (reply_to (settled_by s took) x)
replies_more s [] x = append-nil (out_of (reply_to s x))
replies_more s (y ∷ took) x = ap (λ (outs : List Outgoing). out_of (reply_to s y) ++ outs) (replies_more (rules s y) took x) ∙ sym (append_assoc (out_of (reply_to s y)) (replies_from (rules s y) took) (out_of (reply_to (settled_by (rules s y) took) x)))

-- ---- what holds of a node that runs

-- its stages, what is between them, and its outboxes
pub record Stages (D : Type 0) : Type 0 where
  pub pending : PendingView
  pub ready : List Ready
  pub pend_hand : Option Ready
  pub ledger : LedgerView D
  pub decided : List Onward
  pub slot_hand : Option Onward
  pub applier : ApplierView
  pub outboxes : List OutboxView

module _ {D : Type 0} where
  abbrev pub stages_of : NodeView D → Stages D
  stages_of v = record {
    pending = v.pending;
    ready = v.ready;
    pend_hand = v.pend_hand;
    ledger = v.ledger;
    decided = v.decided;
    slot_hand = v.slot_hand;
    applier = v.applier;
    outboxes = v.outboxes;
  }

module _ {D : Type 0} (says : Says D) (driver : D) (first : ℕ) (base : List ℕ) where
  -- what each stage took and handed out since the node was made, and the moves at its outboxes
  pub record Turned (c : Config) (sent : ℕ → List (List ℕ)) (taken : List Inbound) (v : Stages D) : Type 0 where
    pub given : List Ready
    pub pending : Pends c.me c.peers taken given v.pending
    pub local : v.pending.settled.store.local ≡ c.set
    pub takes : List Taking
    pub ready : IsOnWay given (things takes) v.ready v.pend_hand
    pub served : ServesEach says (nothing_taken c.me c.set driver c.peers first) takes v.ledger
    pub applied : List Onward
    pub decided : IsOnWay (onwards_of takes) applied v.decided v.slot_hand
    pub turns : List Move
    pub replies_are : flat_map replies_in turns ≡ replies_from (start_of (who_of c)) taken
    pub said_are : flat_map sayings_in turns ≡ outs_of takes
    pub answered : AnswersEach (nothing_applied first base) applied (flat_map answers_in turns) v.applier
    pub moved : MovesEach (replicate (length c.peers) empty_outbox) turns v.outboxes
    pub spelt : (link : ℕ) → AllZip Spells (sent link) (flat_map (given_over link) turns)

  -- and what came to its pending stage: all that was put into the inbox, except what waits there
  abbrev pub At : Past → (ℕ → List (List ℕ)) → NodeView D → Type 0
  At p sent v = (taken : List Inbound) × (p.came ≡ taken ++ v.inbox) × Turned v.config sent taken (stages_of v)

  -- nothing more was sent
  pub turned_sent : (c : Config) (sent same : ℕ → List (List ℕ)) (taken : List Inbound) (v : Stages D) → ((link : ℕ) → same link ≡ sent link) → Turned c sent taken v → Turned c same taken v
  turned_sent c sent same taken v e t = record {
    given = t.given;
    pending = t.pending;
    local = t.local;
    takes = t.takes;
    ready = t.ready;
    served = t.served;
    applied = t.applied;
    decided = t.decided;
    turns = t.turns;
    replies_are = t.replies_are;
    said_are = t.said_are;
    answered = t.answered;
    moved = t.moved;
    spelt = λ link. subst (λ (bytes : List (List ℕ)). AllZip Spells bytes (flat_map (given_over link) t.turns)) (sym (e link)) (t.spelt link);
  }

  -- ---- the pending stage

  brings : (c : Config) (sent : ℕ → List (List ℕ)) (taken : List Inbound) (old new : NodeView D) → old.pend_hand ≡ None → (b : PendBrings old new) → Turned c sent taken (stages_of old) → Turned c sent taken (stages_of (record old { pending = b.after'; pend_hand = Some b.thing }))
  brings c sent taken old new empty b t = record {
    given = t.given ++ b.thing ∷ [];
    pending = subst (λ (xs : List Inbound). Pends c.me c.peers xs (t.given ++ b.thing ∷ []) b.after') (append-nil taken) (b.passes c.me c.peers taken t.given t.pending);
    local = ap (λ (w : PendingView). w.settled.store.local) b.same ∙ t.local;
    takes = t.takes;
    ready = way-fill t.given (things t.takes) old.ready old.pend_hand (Some b.thing) empty t.ready;
    served = t.served;
    applied = t.applied;
    decided = t.decided;
    turns = t.turns;
    replies_are = t.replies_are;
    said_are = t.said_are;
    answered = t.answered;
    moved = t.moved;
    spelt = t.spelt;
  }

  pend_takes : Laws says → (c : Config) (sent : ℕ → List (List ℕ)) (taken : List Inbound) (old new : NodeView D) → old.pend_hand ≡ None → (b : PendTakes old new) → Turned c sent taken (stages_of old) → Turned c sent (taken ++ b.x ∷ []) (stages_of (record old { inbox = b.rest; pending = b.after'; pend_hand = b.thing; outboxes = new.outboxes }))
  pend_takes law c sent taken old new empty b t =
      let start : Settled = start_of (who_of c) in
      let answer : Option (ℕ × Message) = reply_to old.pending.settled b.x in
      let move : Move = replied (out_of answer) in
      let settled : old.pending.settled ≡ settled_by start taken = t.pending.settled ∙ ap (λ (set : QuorumTree). settled_by (fresh c.me c.peers set) taken) t.local in
      let one : Pends c.me c.peers (taken ++ b.x ∷ []) t.given b.between = subst (λ (ys : List Ready). Pends c.me c.peers (taken ++ b.x ∷ []) ys b.between) (append-nil t.given) (b.takes c.me c.peers taken t.given t.pending) in
      record {
        given = t.given ++ option_to_list b.thing;
        pending = subst (λ (xs : List Inbound). Pends c.me c.peers xs (t.given ++ option_to_list b.thing) b.after') (append-nil (taken ++ b.x ∷ [])) (b.gives c.me c.peers (taken ++ b.x ∷ []) t.given one);
        local = ap (λ (w : PendingView). w.settled.store.local) b.same ∙ ap (λ (w : PendingView). w.settled.store.local) b.rules ∙ (law.stays old.pending.settled (b.x ∷ [])).local ∙ t.local;
        takes = t.takes;
        ready = way-fill t.given (things t.takes) old.ready old.pend_hand b.thing empty t.ready;
        served = t.served;
        applied = t.applied;
        decided = t.decided;
        turns = t.turns ++ move ∷ [];
        replies_are =
            move_more replies_in t.turns move
            ∙ ap (λ (os : List Outgoing). os ++ out_of answer) t.replies_are
            ∙ ap (λ (s : Settled). replies_from start taken ++ out_of (reply_to s b.x)) settled
            ∙ sym (replies_more start taken b.x);
        said_are = move_none sayings_in t.turns move refl ∙ t.said_are;
        answered = subst (λ (os : List Outgoing). AnswersEach (nothing_applied first base) t.applied os old.applier) (sym (move_none answers_in t.turns move refl)) t.answered;
        moved = moves_one (replicate (length c.peers) empty_outbox) old.outboxes new.outboxes t.turns move t.moved (hands_each old.outboxes new.outboxes answer b.hands);
        spelt = λ link. subst (λ (ms : List Message). AllZip Spells (sent link) ms) (sym (move_none (given_over link) t.turns move refl)) (t.spelt link);
      }

  pend_puts : (c : Config) (sent : ℕ → List (List ℕ)) (taken : List Inbound) (old : NodeView D) (x : Ready) → old.pend_hand ≡ Some x → Turned c sent taken (stages_of old) → Turned c sent taken (stages_of (record old { pend_hand = None; ready = old.ready ++ x ∷ [] }))
  pend_puts c sent taken old x some t = record {
    given = t.given;
    pending = t.pending;
    local = t.local;
    takes = t.takes;
    ready = way-put t.given (things t.takes) old.ready old.pend_hand x some t.ready;
    served = t.served;
    applied = t.applied;
    decided = t.decided;
    turns = t.turns;
    replies_are = t.replies_are;
    said_are = t.said_are;
    answered = t.answered;
    moved = t.moved;
    spelt = t.spelt;
  }

  -- ---- the slot stage

  slot_takes : (c : Config) (sent : ℕ → List (List ℕ)) (taken : List Inbound) (old new : NodeView D) → old.slot_hand ≡ None → (b : SlotTakes says old new) → Turned c sent taken (stages_of old) → Turned c sent taken (stages_of (record old { ready = b.rest; ledger = b.after'; slot_hand = b.took.onward; last_command = b.took.command; last_said = said_in b.took.outgoing; outboxes = new.outboxes }))
  slot_takes c sent taken old new empty b t =
      let last : Taking = record { thing = b.x; gave = b.took } in
      let move : Move = said b.took.outgoing in
      let serves : Serves says old.ledger last b.after' = record { takes = b.takes; tells = b.tells; known = b.known; running = b.running } in
      record {
        given = t.given;
        pending = t.pending;
        local = t.local;
        takes = t.takes ++ last ∷ [];
        ready = subst (λ (xs : List Ready). IsOnWay t.given xs b.rest old.pend_hand) (sym (map-append thing_of t.takes (last ∷ []))) (way-take t.given (things t.takes) old.ready b.rest old.pend_hand b.x b.ready t.ready);
        served = serves_one says (nothing_taken c.me c.set driver c.peers first) old.ledger b.after' t.takes last t.served serves;
        applied = t.applied;
        decided = subst (λ (ys : List Onward). IsOnWay ys t.applied old.decided b.took.onward) (sym (flat_map-append onward_of t.takes (last ∷ []) ∙ ap (λ (ys : List Onward). onwards_of t.takes ++ ys) (append-nil (option_to_list b.took.onward)))) (way-fill (onwards_of t.takes) t.applied old.decided old.slot_hand b.took.onward empty t.decided);
        turns = t.turns ++ move ∷ [];
        replies_are = move_none replies_in t.turns move refl ∙ t.replies_are;
        said_are =
            move_more sayings_in t.turns move
            ∙ ap (λ (os : List Outgoing). os ++ b.took.outgoing) t.said_are
            ∙ sym (flat_map-append out_by t.takes (last ∷ []) ∙ ap (λ (os : List Outgoing). outs_of t.takes ++ os) (append-nil b.took.outgoing));
        answered = subst (λ (os : List Outgoing). AnswersEach (nothing_applied first base) t.applied os old.applier) (sym (move_none answers_in t.turns move refl)) t.answered;
        moved = moves_one (replicate (length c.peers) empty_outbox) old.outboxes new.outboxes t.turns move t.moved b.hands;
        spelt = λ link. subst (λ (ms : List Message). AllZip Spells (sent link) ms) (sym (move_none (given_over link) t.turns move refl)) (t.spelt link);
      }

  slot_puts : (c : Config) (sent : ℕ → List (List ℕ)) (taken : List Inbound) (old : NodeView D) (x : Onward) → old.slot_hand ≡ Some x → Turned c sent taken (stages_of old) → Turned c sent taken (stages_of (record old { slot_hand = None; decided = old.decided ++ x ∷ [] }))
  slot_puts c sent taken old x some t = record {
    given = t.given;
    pending = t.pending;
    local = t.local;
    takes = t.takes;
    ready = t.ready;
    served = t.served;
    applied = t.applied;
    decided = way-put (onwards_of t.takes) t.applied old.decided old.slot_hand x some t.decided;
    turns = t.turns;
    replies_are = t.replies_are;
    said_are = t.said_are;
    answered = t.answered;
    moved = t.moved;
    spelt = t.spelt;
  }

  -- ---- the applier

  apply_takes : (c : Config) (sent : ℕ → List (List ℕ)) (taken : List Inbound) (old new : NodeView D) (b : ApplyTakes old new) → Turned c sent taken (stages_of old) → Turned c sent taken (stages_of (record old { decided = b.rest; applier = b.after'; outboxes = new.outboxes }))
  apply_takes c sent taken old new b t =
      let move : Move = answered (out_of b.answer) in
      let answers : Answers old.applier b.x b.answer b.after' = record { takes = b.takes; known = b.known; running = b.running } in
      record {
        given = t.given;
        pending = t.pending;
        local = t.local;
        takes = t.takes;
        ready = t.ready;
        served = t.served;
        applied = t.applied ++ b.x ∷ [];
        decided = way-take (onwards_of t.takes) t.applied old.decided b.rest old.slot_hand b.x b.decided t.decided;
        turns = t.turns ++ move ∷ [];
        replies_are = move_none replies_in t.turns move refl ∙ t.replies_are;
        said_are = move_none sayings_in t.turns move refl ∙ t.said_are;
        answered = subst (λ (os : List Outgoing). AnswersEach (nothing_applied first base) (t.applied ++ b.x ∷ []) os b.after') (sym (move_more answers_in t.turns move)) (answers_one (nothing_applied first base) old.applier b.after' t.applied (flat_map answers_in t.turns) (out_of b.answer) b.x b.answer t.answered answers refl);
        moved = moves_one (replicate (length c.peers) empty_outbox) old.outboxes new.outboxes t.turns move t.moved (hands_each old.outboxes new.outboxes b.answer b.hands);
        spelt = λ link. subst (λ (ms : List Message). AllZip Spells (sent link) ms) (sym (move_none (given_over link) t.turns move refl)) (t.spelt link);
      }

  -- ---- each event

  accepted : (p : Past) (sent : ℕ → List (List ℕ)) (old new : NodeView D) (event : Event) → Accepts old event new → At p sent old → At (accepts old.config p event) sent new
  accepted p sent old new (Open l) a t = subst (λ (v : NodeView D). At (accepts old.config p (Open l)) sent v) (sym a.2.3) t
  accepted p sent old new (Send l bytes) a t = subst (λ (v : NodeView D). At (accepts old.config p (Send l bytes)) sent v) (sym a.2.2) t
  accepted p sent old new (Close l) a t = subst (λ (v : NodeView D). At (accepts old.config p (Close l)) sent v) (sym a.2.2) t
  accepted p sent old new (Local command) a t =
      subst (λ (v : NodeView D). At (accepts old.config p (Local command)) sent v) (sym a.2)
      (t.0, ap (λ (xs : List Inbound). xs ++ inbound.Local command ∷ []) t.1 ∙ append_assoc t.0 old.inbox (inbound.Local command ∷ []), t.2)
  accepted p sent old new event a t = absurd a

  moved : Laws says → (p : Past) (sent : ℕ → List (List ℕ)) (old new : NodeView D) (event : Event) (f : Flows says p old) → Moves says old event new → At p sent old → At (moves p event) sent new
  moved law p sent old new (ReaderTake l) f a t = subst (λ (v : NodeView D). At (moves p (ReaderTake l)) sent v) (sym a.2.4) t
  moved law p sent old new (ReaderPut l) f a t =
      let k = a.0 in
      let x = a.2.1 in
      let o = p.links l in
      let at = there_is old.config.peers l (rw (← f.count) (within old.links l k a.1)) in
      let next : take 1 (drop o.given (readings_of o)) ≡ x ∷ [] = ap (take 1) (hand_cut law.read old.config.me at.0 old.config.capacities.link o k x a.2.2 a.2.3 (f.links l k a.1 at.0 at.1)) in
      subst (λ (v : NodeView D). At (moves p (ReaderPut l)) sent v) (sym a.2.4)
      (t.0, ap (λ (xs : List Inbound). p.came ++ xs) next ∙ ap (λ (xs : List Inbound). xs ++ x ∷ []) t.1 ∙ append_assoc t.0 old.inbox (x ∷ []), t.2)
  moved law p sent old new PendTake f a t = elim a.1 [
    | inl b ↦ subst (λ (v : NodeView D). At p sent v) (sym b.is) (t.0, t.1, brings old.config sent t.0 old new a.0 b t.2)
    | inr b ↦ subst (λ (v : NodeView D). At p sent v) (sym b.is) (
      t.0 ++ b.x ∷ [],
      t.1 ∙ ap (λ (xs : List Inbound). t.0 ++ xs) b.inbox ∙ sym (append_assoc t.0 (b.x ∷ []) b.rest),
      pend_takes law old.config sent t.0 old new a.0 b t.2,
    )
  ]
  moved law p sent old new PendPut f a t = subst (λ (v : NodeView D). At (moves p PendPut) sent v) (sym a.3) (t.0, t.1, pend_puts old.config sent t.0 old a.1 a.2 t.2)
  moved law p sent old new SlotTake f a t = subst (λ (v : NodeView D). At (moves p SlotTake) sent v) (sym a.1.is) (t.0, t.1, slot_takes old.config sent t.0 old new a.0 a.1 t.2)
  moved law p sent old new SlotPut f a t = subst (λ (v : NodeView D). At (moves p SlotPut) sent v) (sym a.3) (t.0, t.1, slot_puts old.config sent t.0 old a.1 a.2 t.2)
  moved law p sent old new ApplyTake f a t = subst (λ (v : NodeView D). At (moves p ApplyTake) sent v) (sym a.is) (t.0, t.1, apply_takes old.config sent t.0 old new a t.2)
  moved law p sent old new event f a t = absurd a

  abbrev sent_with : (ℕ → List (List ℕ)) → Event → Reply → ℕ → List (List ℕ)
  sent_with sent event reply link = sent link ++ sent_by link event reply

  drained : (p : Past) (sent : ℕ → List (List ℕ)) (old new : NodeView D) (event : Event) (bytes : List ℕ) → SendsOut old event bytes new → At p sent old → At p (sent_with sent event (Sent bytes)) new
  drained p sent old new (Drain l) bytes d t =
      let turned = t.2 in
      let move : Move = gave l d.message in
      subst (λ (v : NodeView D). At p (sent_with sent (Drain l) (Sent bytes)) v) (sym d.is) (
        t.0,
        t.1,
        record {
          given = turned.given;
          pending = turned.pending;
          local = turned.local;
          takes = turned.takes;
          ready = turned.ready;
          served = turned.served;
          applied = turned.applied;
          decided = turned.decided;
          turns = turned.turns ++ move ∷ [];
          replies_are = move_none replies_in turned.turns move refl ∙ turned.replies_are;
          said_are = move_none sayings_in turned.turns move refl ∙ turned.said_are;
          answered = subst (λ (os : List Outgoing). AnswersEach (nothing_applied first base) turned.applied os old.applier) (sym (move_none answers_in turned.turns move refl)) turned.answered;
          moved = moves_one (replicate (length old.config.peers) empty_outbox) old.outboxes new.outboxes turned.turns move turned.moved d.gives;
          spelt = λ link. subst (λ (ms : List Message). AllZip Spells (sent link ++ sent_by link (Drain l) (Sent bytes)) ms) (sym (move_more (given_over link) turned.turns move)) (spells_on (nat_eq l link) (sent link) (flat_map (given_over link) turned.turns) bytes d.message (turned.spelt link) d.spells);
        },
      )
  drained p sent old new event bytes d t = absurd d

  -- nothing is sent
  silent : (p : Past) (sent : ℕ → List (List ℕ)) (v : NodeView D) (event : Event) (reply : Reply) → IsQuiet reply → At p sent v → At p (sent_with sent event reply) v
  silent p sent v event reply q t = (t.0, t.1, turned_sent v.config sent (sent_with sent event reply) t.0 (stages_of v) (λ link. ap (λ (bytes : List (List ℕ)). sent link ++ bytes) (quiet link event reply q) ∙ append-nil (sent link)) t.2)

  -- ---- each reply, while the node runs

  abbrev pub Runs : Past → (ℕ → List (List ℕ)) → NodeView D → Type 0
  Runs p sent v = v.failed ≡ false → At p sent v

  stays : (p : Past) (sent : ℕ → List (List ℕ)) (old new : NodeView D) (event : Event) (reply : Reply) → IsQuiet reply → old.failed ≡ false → new ≡ old → Runs p sent old → Runs p (sent_with sent event reply) new
  stays p sent old new event reply q runs e t = λ _. subst (λ (v : NodeView D). At p (sent_with sent event reply) v) (sym e) (silent p sent old event reply q (t runs))

  fails : (p : Past) (sent : ℕ → List (List ℕ)) (old new : NodeView D) (event : Event) → Fails old event new → Runs p sent new
  fails p sent old new event x = λ runs. absurd (true_isnt (sym x.failed ∙ runs))

  stepped : Laws says → (p : Past) (sent : ℕ → List (List ℕ)) (old new : NodeView D) (event : Event) (reply : Reply) (f : Flows says p old) → Step says old event reply new → Runs p sent old → Runs (hears old.config p event reply) (sent_with sent event reply) new
  stepped law p sent old new event Failed f s t = absurd (true_isnt (sym s.0 ∙ f.runs))
  stepped law p sent old new event Accepted f s t = λ _. silent (accepts old.config p event) sent new event Accepted (λ bytes e. cc) (accepted p sent old new event s.1 (t f.runs))
  stepped law p sent old new event Moved f s t = λ _. silent (moves p event) sent new event Moved (λ bytes e. cc) (moved law p sent old new event f s.1 (t f.runs))
  stepped law p sent old new event (Sent bytes) f s t = λ _. drained p sent old new event bytes s.1 (t f.runs)
  stepped law p sent old new event JournalFull f s t = fails (record p { failed = true }) (sent_with sent event JournalFull) old new event s.0
  stepped law p sent old new event NoMemory f s t = fails (record p { failed = true }) (sent_with sent event NoMemory) old new event s.0
  stepped law p sent old new event NoLink f s t = stays p sent old new event NoLink (λ bytes e. cc) f.runs s.2 t
  stepped law p sent old new event AlreadyOpen f s t = stays p sent old new event AlreadyOpen (λ bytes e. cc) f.runs s.2 t
  stepped law p sent old new event LivesSpent f s t = stays p sent old new event LivesSpent (λ bytes e. cc) f.runs s.2 t
  stepped law p sent old new event NotOpen f s t = stays p sent old new event NotOpen (λ bytes e. cc) f.runs s.2 t
  stepped law p sent old new event Full f s t = stays p sent old new event Full (λ bytes e. cc) f.runs s.2 t
  stepped law p sent old new event Blocked f s t = stays p sent old new event Blocked (λ bytes e. cc) f.runs s.2 t
  stepped law p sent old new event Idle f s t = stays p sent old new event Idle (λ bytes e. cc) f.runs s.2 t

  -- once the node failed nothing is sent
  failed_reply : (c : Config) (p : Past) (sent : ℕ → List (List ℕ)) (old new : NodeView D) (event : Event) (reply : Reply) → reply ≡ Failed → new ≡ old → Runs p sent old → Runs (hears c p event reply) (sent_with sent event reply) new
  failed_reply c p sent old new event reply e same t =
      subst (λ (r : Reply). Runs (hears c p event r) (sent_with sent event r) new) (sym e)
      (subst (λ (v : NodeView D). Runs p (sent_with sent event Failed) v) (sym same) (λ runs. silent p sent old event Failed (λ bytes k. cc) (t runs)))

  pub turned_step : Laws says → (c : Config) (p : Past) (sent : ℕ → List (List ℕ)) (old : NodeView D) (event : Event) (reply : Reply) (new : NodeView D) → IsReply says c p old event reply new → Runs p sent old → Runs (hears c p event reply) (sent_with sent event reply) new
  turned_step law c p sent old event reply new r t = elim r [
    | inl w ↦ failed_reply c p sent old new event reply w.1 w.2 t
    | inr w ↦ subst (λ (d : Config). Runs (hears d p event reply) (sent_with sent event reply) new) w.1.config (stepped law p sent old new event reply w.1.flows w.1.step t)
  ]
