-- One step: what was sent rests on its grounds then too.
use Rattle.std.proofs.Common.{◌≡◌, ◌≢◌, ℕ, Bool, true, false, List, [], ◌∷◌, ◌++◌, refl, sym, ◌∙◌, ap, subst, append_assoc, append-nil, take, drop, inl, inr}
use Rattle.std.specs.Prelude.{Option, Some, slice_set, if◌then◌else◌}
use Rattle.std.proofs.lemmas.Bool.{eq-eqb, ne_eqb}
use Rattle.std.proofs.lemmas.List.{append_cancel_right}
use Rattle.scp_theorem.specs.scp_driver.specs.Driver.{Says}
use Rattle.scp_theorem.specs.scp_wire.specs.declared.link.Inbound.{Inbound}
use Rattle.scp_theorem.specs.scp_wire.specs.declared.link.Inbound.TheVariants as inbound
use Rattle.scp_theorem.specs.scp_wire.specs.declared.message.Message.{Message}
use Rattle.scp_theorem.specs.scp_pending.specs.Rules.{Settled, settled_by, reply as reply_to}
use Rattle.scp_theorem.specs.scp_pending.specs.declared.ready.Ready.{Ready}
use Rattle.scp_theorem.specs.Grounds.{Grounds, start_of, IsSentOut}
use Rattle.scp_theorem.specs.Handed.{out_of}
use Rattle.scp_theorem.proofs.Asked.{applied_more}
use Rattle.scp_theorem.proofs.Basics.{no_more, more_of, there_is, true_isnt}
use Rattle.scp_theorem.proofs.Fit.{AreFit, fit_more, fit_answer, fit_step}
use Rattle.scp_theorem.proofs.Growing.{Grows}
use Rattle.scp_theorem.proofs.Ledgers.{LedgerStep, ledger_step}
use Rattle.scp_theorem.proofs.Replies.{MayReply, reply_may, reply_more}
use Rattle.scp_core.specs.declared.config.Config.{Config}
use Rattle.scp_core.specs.declared.event.Event.{Event}
use Rattle.scp_core.specs.declared.event.Event.TheVariants.{Open, Send, Close, Local, ReaderTake, ReaderPut, PendTake, PendPut, SlotTake, SlotPut, ApplyTake, Drain}
use Rattle.scp_core.specs.declared.event.Reply.{Reply}
use Rattle.scp_core.specs.declared.event.Reply.TheVariants.{Failed, NoLink, AlreadyOpen, LivesSpent, NotOpen, Full, Accepted, Blocked, Idle, Moved, Sent, JournalFull, NoMemory}
use Rattle.scp_core.specs.Flow.{Flows}
use Rattle.scp_core.specs.History.{Past, accepts, moves, hears, readings_of}
use Rattle.scp_core.specs.Node.{NodeView, said_in, PendTakes, SlotTakes, ApplyTakes, Accepts, Moves, SendsOut, Step, Fails}
use Rattle.scp_core.specs.Theorem.{IsReply}
use Rattle.scp_core.specs.Sent.{who_of, sent_by, grounds_of}
use Rattle.scp_core.proofs.StageLaws.{Laws}
use Rattle.scp_core.proofs.Links.{hand_cut}
use Rattle.scp_core.proofs.Idling.{start_is}
use Rattle.scp_core.proofs.Putting.{hands_each}
use Rattle.scp_core.proofs.Queues.{within}
use Rattle.scp_core.proofs.grounds.Handing.{Stands, stands_sent, sent_out, puts_each, gives_one}
use Rattle.scp_core.proofs.grounds.Answers.{told_to_ask, applied_may}

module _ {D : Type 0} where
  -- what holds of a list of exchanges: all that was sent rests on its grounds; and of a node that runs, what waits is the inbox
  pub record State (p : Past) (sent : ℕ → List (List ℕ)) (v : NodeView D) : Type 0 where
    pub taken : List Inbound
    pub waiting : List Inbound
    pub came : p.came ≡ taken ++ waiting
    pub out : (link : ℕ) → IsSentOut (grounds_of v taken) link (sent link)
    pub now : v.failed ≡ false → (waiting ≡ v.inbox) × Stands sent (grounds_of v taken) v.ledger v.outboxes

  -- of a node that runs
  pub state_of : (p : Past) (sent : ℕ → List (List ℕ)) (v : NodeView D) (taken : List Inbound) → p.came ≡ taken ++ v.inbox → Stands sent (grounds_of v taken) v.ledger v.outboxes → State p sent v
  state_of p sent v taken came st = record { taken = taken; waiting = v.inbox; came = came; out = sent_out sent (grounds_of v taken) v.ledger v.outboxes st; now = λ runs. (refl, st) }

module _ {D : Type 0} (says : Says D) where
  -- what was taken is what arrived at the pending stage
  pub at_arrived : (p : Past) (sent : ℕ → List (List ℕ)) (v : NodeView D) (f : Flows says p v) → State p sent v → Stands sent (grounds_of v f.arrived) v.ledger v.outboxes
  at_arrived p sent v f s =
      let now = s.now f.runs in
      let same : s.taken ≡ f.arrived = append_cancel_right s.taken f.arrived v.inbox (ap (λ (xs : List Inbound). s.taken ++ xs) (sym now.0) ∙ sym s.came ∙ f.inbox) in
      subst (λ (xs : List Inbound). Stands sent (grounds_of v xs) v.ledger v.outboxes) same now.1

  -- ---- accepted events

  accepted : (p : Past) (sent : ℕ → List (List ℕ)) (old new : NodeView D) (event : Event) (f : Flows says p old) → Accepts old event new → Stands sent (grounds_of old f.arrived) old.ledger old.outboxes → State (accepts old.config p event) sent new
  accepted p sent old new (Open l) f a st = subst (λ (v : NodeView D). State (accepts old.config p (Open l)) sent v) (sym a.2.3) (state_of (accepts old.config p (Open l)) sent _ f.arrived f.inbox st)
  accepted p sent old new (Send l bytes) f a st = subst (λ (v : NodeView D). State (accepts old.config p (Send l bytes)) sent v) (sym a.2.2) (state_of (accepts old.config p (Send l bytes)) sent _ f.arrived f.inbox st)
  accepted p sent old new (Close l) f a st = subst (λ (v : NodeView D). State (accepts old.config p (Close l)) sent v) (sym a.2.2) (state_of (accepts old.config p (Close l)) sent _ f.arrived f.inbox st)
  accepted p sent old new (Local command) f a st =
      subst (λ (v : NodeView D). State (accepts old.config p (Local command)) sent v) (sym a.2)
      (state_of (accepts old.config p (Local command)) sent (record old { inbox = old.inbox ++ inbound.Local command ∷ [] }) f.arrived (ap (λ (xs : List Inbound). xs ++ inbound.Local command ∷ []) f.inbox ∙ append_assoc f.arrived old.inbox (inbound.Local command ∷ [])) st)
  accepted p sent old new event f a st = absurd a

  -- ---- the stages

  pend_takes : Laws says → (p : Past) (sent : ℕ → List (List ℕ)) (old new : NodeView D) (f : Flows says p old) → PendTakes old new → Stands sent (grounds_of old f.arrived) old.ledger old.outboxes → State p sent new
  pend_takes law p sent old new f b st =
      let taken : List Inbound = f.arrived ++ b.x ∷ [] in
      let g = grounds_of old f.arrived in
      let h = grounds_of old taken in
      let more : Grows g h = record { who = refl; taken = more_of f.arrived taken (b.x ∷ []) refl; journal = no_more old.ledger.journal old.ledger.journal refl; decisions = no_more old.ledger.decisions old.ledger.decisions refl; applied = no_more old.applier.applied old.applier.applied refl } in
      let answer : Option (ℕ × Message) = reply_to old.pending.settled b.x in
      let rules : old.pending.settled ≡ settled_by (start_of (who_of old.config)) f.arrived = f.pending.settled ∙ ap (λ (start : Settled). settled_by start f.arrived) (start_is says p old f) in
      let may : MayReply h answer = subst (λ (s : Settled). MayReply h (reply_to s b.x)) (sym rules) (reply_may law.replies law.stays law.links h f.arrived b.x refl) in
      let fit : AreFit h old.ledger (st.handed ++ out_of answer) = fit_answer h old.ledger st.handed answer may (fit_more g h old.ledger st.handed more st.fit) in
      let came : p.came ≡ taken ++ b.rest = f.inbox ∙ ap (λ (xs : List Inbound). f.arrived ++ xs) b.inbox ∙ sym (append_assoc f.arrived (b.x ∷ []) b.rest) in
      subst (λ (v : NodeView D). State p sent v) (sym b.is)
      (state_of p sent (record old { inbox = b.rest; pending = b.after'; pend_hand = b.thing; outboxes = new.outboxes }) taken came
      (record { handed = st.handed ++ out_of answer; boxes = puts_each law.puts sent old.outboxes st.handed (out_of answer) new.outboxes st.boxes (hands_each old.outboxes new.outboxes answer b.hands) fit.newer; fit = fit; machines = st.machines }))

  apply_takes : Laws says → (p : Past) (sent : ℕ → List (List ℕ)) (old new : NodeView D) (f : Flows says p old) → ApplyTakes old new → Stands sent (grounds_of old f.arrived) old.ledger old.outboxes → State (moves p ApplyTake) sent new
  apply_takes law p sent old new f b st =
      let w : NodeView D = record old { decided = b.rest; applier = b.after'; outboxes = new.outboxes } in
      let g = grounds_of old f.arrived in
      let h = grounds_of w f.arrived in
      let more : Grows g h = record { who = refl; taken = no_more f.arrived f.arrived refl; journal = no_more old.ledger.journal old.ledger.journal refl; decisions = no_more old.ledger.decisions old.ledger.decisions refl; applied = applied_more old.applier b.x b.answer b.after' b.takes } in
      let may : MayReply h b.answer = reply_more g h b.answer more (applied_may says law p old f b.x b.rest b.answer b.after' b.decided b.takes) in
      let fit : AreFit h old.ledger (st.handed ++ out_of b.answer) = fit_answer h old.ledger st.handed b.answer may (fit_more g h old.ledger st.handed more st.fit) in
      subst (λ (v : NodeView D). State (moves p ApplyTake) sent v) (sym b.is)
      (state_of (moves p ApplyTake) sent w f.arrived f.inbox
      (record { handed = st.handed ++ out_of b.answer; boxes = puts_each law.puts sent old.outboxes st.handed (out_of b.answer) new.outboxes st.boxes (hands_each old.outboxes new.outboxes b.answer b.hands) fit.newer; fit = fit; machines = st.machines }))

  slot_takes : Laws says → (p : Past) (sent : ℕ → List (List ℕ)) (old new : NodeView D) (f : Flows says p old) → SlotTakes says old new → Stands sent (grounds_of old f.arrived) old.ledger old.outboxes → State (moves p SlotTake) sent new
  slot_takes law p sent old new f b st =
      let w : NodeView D = record old { ready = b.rest; ledger = b.after'; slot_hand = b.took.onward; last_command = b.took.command; last_said = said_in b.took.outgoing; outboxes = new.outboxes } in
      let g = grounds_of old f.arrived in
      let h = grounds_of w f.arrived in
      let s : LedgerStep (who_of old.config) old.ledger b.x b.took b.after' = ledger_step says (who_of old.config) old.ledger b.x b.took b.after' f.journal.me_is f.journal.local_is st.machines b.takes in
      let more : Grows g h = record { who = refl; taken = no_more f.arrived f.arrived refl; journal = s.journal; decisions = s.decisions; applied = no_more old.applier.applied old.applier.applied refl } in
      let fit : AreFit h b.after' (st.handed ++ b.took.outgoing) = fit_step g h old.ledger b.x b.took b.after' st.handed more refl s (λ link slot e. told_to_ask says law p old f b.rest link slot (b.ready ∙ ap (λ (x : Ready). x ∷ b.rest) e)) st.fit in
      subst (λ (v : NodeView D). State (moves p SlotTake) sent v) (sym b.is)
      (state_of (moves p SlotTake) sent w f.arrived f.inbox
      (record { handed = st.handed ++ b.took.outgoing; boxes = puts_each law.puts sent old.outboxes st.handed b.took.outgoing new.outboxes st.boxes b.hands fit.newer; fit = fit; machines = s.machines }))

  -- ---- events that move something

  moved : Laws says → (p : Past) (sent : ℕ → List (List ℕ)) (old new : NodeView D) (event : Event) (f : Flows says p old) → Moves says old event new → Stands sent (grounds_of old f.arrived) old.ledger old.outboxes → State (moves p event) sent new
  moved law p sent old new (ReaderTake l) f a st = subst (λ (v : NodeView D). State (moves p (ReaderTake l)) sent v) (sym a.2.4) (state_of (moves p (ReaderTake l)) sent _ f.arrived f.inbox st)
  moved law p sent old new (ReaderPut l) f a st =
      let k = a.0 in
      let x = a.2.1 in
      let o = p.links l in
      let at = there_is old.config.peers l (rw (← f.count) (within old.links l k a.1)) in
      let next : take 1 (drop o.given (readings_of o)) ≡ x ∷ [] = ap (take 1) (hand_cut law.read old.config.me at.0 old.config.capacities.link o k x a.2.2 a.2.3 (f.links l k a.1 at.0 at.1)) in
      subst (λ (v : NodeView D). State (moves p (ReaderPut l)) sent v) (sym a.2.4)
      (state_of (moves p (ReaderPut l)) sent (record old { links = slice_set old.links l (record k { hand = a.2.2 }); inbox = old.inbox ++ x ∷ [] }) f.arrived (ap (λ (xs : List Inbound). p.came ++ xs) next ∙ ap (λ (xs : List Inbound). xs ++ x ∷ []) f.inbox ∙ append_assoc f.arrived old.inbox (x ∷ [])) st)
  moved law p sent old new PendTake f a st = elim a.1 [
    | inl b ↦ subst (λ (v : NodeView D). State p sent v) (sym b.is) (state_of p sent (record old { pending = b.after'; pend_hand = Some b.thing }) f.arrived f.inbox st)
    | inr b ↦ pend_takes law p sent old new f b st
  ]
  moved law p sent old new PendPut f a st = subst (λ (v : NodeView D). State (moves p PendPut) sent v) (sym a.3) (state_of (moves p PendPut) sent _ f.arrived f.inbox st)
  moved law p sent old new SlotTake f a st = slot_takes law p sent old new f a.1 st
  moved law p sent old new SlotPut f a st = subst (λ (v : NodeView D). State (moves p SlotPut) sent v) (sym a.3) (state_of (moves p SlotPut) sent _ f.arrived f.inbox st)
  moved law p sent old new ApplyTake f a st = apply_takes law p sent old new f a st
  moved law p sent old new event f a st = absurd a

-- ---- drains

abbrev with_sent : (ℕ → List (List ℕ)) → Event → Reply → ℕ → List (List ℕ)
with_sent sent event reply link = sent link ++ sent_by link event reply

module _ {D : Type 0} (says : Says D) where
  drained : Laws says → (p : Past) (sent : ℕ → List (List ℕ)) (old new : NodeView D) (event : Event) (bytes : List ℕ) (f : Flows says p old) → SendsOut old event bytes new → Stands sent (grounds_of old f.arrived) old.ledger old.outboxes → State p (with_sent sent event (Sent bytes)) new
  drained law p sent old new (Drain l) bytes f d st =
      subst (λ (v : NodeView D). State p (with_sent sent (Drain l) (Sent bytes)) v) (sym d.is)
      (state_of p (with_sent sent (Drain l) (Sent bytes)) (record old { outboxes = new.outboxes }) f.arrived f.inbox (record {
        handed = st.handed;
        boxes = gives_one law.gives sent (with_sent sent (Drain l) (Sent bytes)) old.outboxes st.handed l d.message bytes new.outboxes st.boxes d.gives d.spells
            (ap (λ (b : Bool). sent l ++ (if b then bytes ∷ [] else [])) (eq-eqb l l refl))
            (λ m ne. ap (λ (b : Bool). sent m ++ (if b then bytes ∷ [] else [])) (ne_eqb l m (λ e. ne (sym e))) ∙ append-nil (sent m));
        fit = st.fit;
        machines = st.machines;
      }))
  drained law p sent old new event bytes f d st = absurd d

-- ---- nothing is sent

abbrev pub IsQuiet : Reply → Type 0
IsQuiet reply = (bytes : List ℕ) → reply ≢ Sent bytes

pub quiet : (link : ℕ) (event : Event) (reply : Reply) → IsQuiet reply → sent_by link event reply ≡ []
quiet link (Drain l) (Sent bytes) q = absurd (q bytes refl)
quiet link event reply q = refl

module _ {D : Type 0} where
  with_nothing : (p : Past) (sent : ℕ → List (List ℕ)) (v : NodeView D) (event : Event) (reply : Reply) → IsQuiet reply → State p sent v → State p (with_sent sent event reply) v
  with_nothing p sent v event reply q s = record {
    taken = s.taken;
    waiting = s.waiting;
    came = s.came;
    out = λ link. subst (λ (bytes : List (List ℕ)). IsSentOut (grounds_of v s.taken) link bytes) (sym (same link)) (s.out link);
    now = λ runs. ((s.now runs).0, stands_sent sent (with_sent sent event reply) (grounds_of v s.taken) v.ledger v.outboxes same (s.now runs).1);
  }
    where
      same : (link : ℕ) → with_sent sent event reply link ≡ sent link
      same link = ap (λ (bytes : List (List ℕ)). sent link ++ bytes) (quiet link event reply q) ∙ append-nil (sent link)

-- ---- a node that fails

module _ {D : Type 0} (says : Says D) where
  fails : (p : Past) (sent : ℕ → List (List ℕ)) (old new : NodeView D) (event : Event) (f : Flows says p old) → Fails old event new → Stands sent (grounds_of old f.arrived) old.ledger old.outboxes → State (record p { failed = true }) sent new
  fails p sent old new event f x st =
      let k = x.keeps in
      let g = grounds_of old f.arrived in
      let same : grounds_of new f.arrived ≡ g = rw (k.config, k.journal, k.decisions, k.applied) refl in
      record {
        taken = f.arrived;
        waiting = old.inbox;
        came = f.inbox;
        out = λ link. subst (λ (h : Grounds). IsSentOut h link (sent link)) (sym same) (sent_out sent g old.ledger old.outboxes st link);
        now = λ runs. absurd (true_isnt (sym x.failed ∙ runs));
      }

  -- ---- each reply

  stays : (p : Past) (sent : ℕ → List (List ℕ)) (old new : NodeView D) (f : Flows says p old) → new ≡ old → Stands sent (grounds_of old f.arrived) old.ledger old.outboxes → State p sent new
  stays p sent old new f e st = subst (λ (v : NodeView D). State p sent v) (sym e) (state_of p sent old f.arrived f.inbox st)

  stepped : Laws says → (p : Past) (sent : ℕ → List (List ℕ)) (old new : NodeView D) (event : Event) (reply : Reply) (f : Flows says p old) → Step says old event reply new → Stands sent (grounds_of old f.arrived) old.ledger old.outboxes → State (hears old.config p event reply) (with_sent sent event reply) new
  stepped law p sent old new event Failed f s st = absurd (true_isnt (sym s.0 ∙ f.runs))
  stepped law p sent old new event Accepted f s st = with_nothing _ sent new event Accepted (λ bytes e. cc) (accepted says p sent old new event f s.1 st)
  stepped law p sent old new event Moved f s st = with_nothing _ sent new event Moved (λ bytes e. cc) (moved says law p sent old new event f s.1 st)
  stepped law p sent old new event (Sent bytes) f s st = drained says law p sent old new event bytes f s.1 st
  stepped law p sent old new event JournalFull f s st = with_nothing _ sent new event JournalFull (λ bytes e. cc) (fails p sent old new event f s.0 st)
  stepped law p sent old new event NoMemory f s st = with_nothing _ sent new event NoMemory (λ bytes e. cc) (fails p sent old new event f s.0 st)
  stepped law p sent old new event NoLink f s st = with_nothing _ sent new event NoLink (λ bytes e. cc) (stays p sent old new f s.2 st)
  stepped law p sent old new event AlreadyOpen f s st = with_nothing _ sent new event AlreadyOpen (λ bytes e. cc) (stays p sent old new f s.2 st)
  stepped law p sent old new event LivesSpent f s st = with_nothing _ sent new event LivesSpent (λ bytes e. cc) (stays p sent old new f s.2 st)
  stepped law p sent old new event NotOpen f s st = with_nothing _ sent new event NotOpen (λ bytes e. cc) (stays p sent old new f s.2 st)
  stepped law p sent old new event Full f s st = with_nothing _ sent new event Full (λ bytes e. cc) (stays p sent old new f s.2 st)
  stepped law p sent old new event Blocked f s st = with_nothing _ sent new event Blocked (λ bytes e. cc) (stays p sent old new f s.2 st)
  stepped law p sent old new event Idle f s st = with_nothing _ sent new event Idle (λ bytes e. cc) (stays p sent old new f s.2 st)

module _ {D : Type 0} where
  -- once the node failed nothing changes
  failed_reply : (c : Config) (p : Past) (sent : ℕ → List (List ℕ)) (old new : NodeView D) (event : Event) (reply : Reply) → reply ≡ Failed → new ≡ old → State p sent old → State (hears c p event reply) (with_sent sent event reply) new
  failed_reply c p sent old new event reply e same s = subst (λ (r : Reply). State (hears c p event r) (with_sent sent event r) new) (sym e) (subst (λ (v : NodeView D). State p (with_sent sent event Failed) v) (sym same) (with_nothing p sent old event Failed (λ bytes k. cc) s))

module _ {D : Type 0} (says : Says D) where
  pub state_step : Laws says → (c : Config) (p : Past) (sent : ℕ → List (List ℕ)) (old : NodeView D) (event : Event) (reply : Reply) (new : NodeView D) → IsReply says c p old event reply new → State p sent old → State (hears c p event reply) (with_sent sent event reply) new
  state_step law c p sent old event reply new r s = elim r [
    | inl w ↦ failed_reply c p sent old new event reply w.1 w.2 s
    | inr w ↦ subst (λ (d : Config). State (hears d p event reply) (with_sent sent event reply) new) w.1.config (stepped says law p sent old new event reply w.1.flows w.1.step (at_arrived says p sent old w.1.flows s))
  ]
