-- Each step of a node that runs: what is sent over one link, and how it stands then.
use Rattle.std.proofs.Common.{◌≡◌, ◌≢◌, ℕ, ◌<◌, Bool, true, false, List, [], ◌∷◌, ◌++◌, length, refl, sym, ◌∙◌, ap, subst, inl, inr, nat_eq, append-nil}
use Rattle.std.specs.Prelude.{Option, Some, None, option_map, slice_get, slice_set, if◌then◌else◌, ◌&&◌, not}
use Rattle.std.proofs.lemmas.Bool.{eqb-true, eqb-false}
use Rattle.std.proofs.lemmas.Option.{slice_get_within}
use Rattle.scp_core.specs.scp_types.specs.declared.names.ConnId.{ConnId}
use Rattle.scp_core.specs.scp_types.specs.declared.names.Hash.{Hash}
use Rattle.scp_core.specs.scp_types.specs.declared.names.Slot.{Slot}
use Rattle.scp_core.specs.scp_driver.specs.Driver.{Says}
use Rattle.scp_core.specs.scp_quorum.specs.QuorumTree.{QuorumTree}
use Rattle.scp_core.specs.scp_envelope.specs.declared.statement.Statement.{Statement}
use Rattle.scp_core.specs.scp_wire.specs.declared.link.Inbound.{Inbound}
use Rattle.scp_core.specs.scp_wire.specs.declared.link.Inbound.TheVariants as inbound
use Rattle.scp_core.specs.scp_wire.specs.declared.message.Message.{Message}
use Rattle.scp_core.specs.scp_wire.specs.declared.message.Message.TheVariants as message
use Rattle.scp_core.specs.scp_wire.specs.declared.side.SideMessage.{SideMessage}
use Rattle.scp_core.specs.scp_wire.specs.declared.side.SideMessage.TheVariants as side
use Rattle.scp_core.specs.scp_outbox.specs.Outbox.{OutboxView}
use Rattle.scp_core.specs.scp_outbox.specs.Handing.{PutsAll, GivesThere}
use Rattle.scp_core.specs.scp_outbox.specs.Sending.{PutsKeepOwes, GivesKeepOwes}
use Rattle.scp_core.specs.scp_outbox.specs.Sent.{statement_of}
use Rattle.scp_core.specs.scp_fetch.specs.Store.{lookup}
use Rattle.scp_core.specs.scp_fetch.specs.Wants.{is_asked}
use Rattle.scp_core.specs.scp_pending.specs.Queues.{is_open, waited_by}
use Rattle.scp_core.specs.scp_pending.specs.Rules.{Settled, is_full, link_number, entering, reply as reply_to, replies, asks, asks_named, answer}
use Rattle.scp_core.specs.scp_ledger.specs.declared.took.Onward.{Onward}
use Rattle.scp_core.specs.scp_ledger.specs.declared.took.Onward.TheVariants.{Decided, Asked}
use Rattle.scp_core.specs.scp_ledger.specs.declared.took.Outgoing.{Outgoing}
use Rattle.scp_core.specs.scp_apply.specs.Applied.{value_of}
use Rattle.scp_core.specs.scp_apply.specs.Applier.{ApplierView, Takes}
use Rattle.scp_core.specs.scp_theorem.specs.Grounds.{Who}
use Rattle.scp_core.specs.scp_theorem.specs.Handed.{messages_for, handed_by, out_of}
use Rattle.scp_core.specs.scp_theorem.proofs.Basics.{set_else, set_there, some_same, there_is, true_isnt}
use Rattle.scp_core.specs.scp_theorem.proofs.Fit.{AllOut, all_none, all_for}
use Rattle.scp_core.specs.declared.event.Event.{Event}
use Rattle.scp_core.specs.declared.event.Event.TheVariants.{Open, Send, Close, Local, ReaderTake, ReaderPut, PendTake, PendPut, SlotTake, SlotPut, ApplyTake, Drain}
use Rattle.scp_core.specs.declared.event.Reply.{Reply}
use Rattle.scp_core.specs.declared.event.Reply.TheVariants.{Failed, NoLink, AlreadyOpen, LivesSpent, NotOpen, Full, Accepted, Blocked, Idle, Moved, Sent, JournalFull, NoMemory}
use Rattle.scp_core.specs.Node.{NodeView, Accepts, Moves, Drains, SendsOut, Step, Hands, HandsEach, SlotTakes}
use Rattle.scp_core.specs.Sent.{sent_by}
use Rattle.scp_again.specs.Laws.{AreEncoded}
use Rattle.scp_again.proofs.Put.{put_quiet}
use Rattle.scp_again.proofs.Taking.{IsTaken, taken}
use Rattle.scp_again.proofs.Holding.{IsPutInto, Holds, holds_put, holds_given, holds_same}

-- ---- the outbox of one link

puts_both : (old between new : OutboxView) (first more : List Message) → PutsAll old first between → PutsAll between more new → PutsAll old (first ++ more) new
puts_both old between new [] more p q = subst (λ (o : OutboxView). PutsAll o more new) p q
puts_both old between new (m ∷ first) more p q = (p.0, p.1, p.2, puts_both p.0 between new first more p.3 q)

-- all that is handed out for the link is put into its outbox
put_into : (link : ℕ) (old new : List OutboxView) (out : List Outgoing) → HandsEach old out new → IsPutInto (slice_get old link) (handed_by out link) (slice_get new link)
put_into link old new [] h o is = (o, ap (λ (xs : List OutboxView). slice_get xs link) (sym h) ∙ is, refl)
put_into link old new (one ∷ out) h o is =
    let rest = put_into link h.0 new out h.2 o is in
    let within : link < length old = subst (λ (n : ℕ). link < n) h.1.count (slice_get_within h.0 link rest.0 rest.1) in
    let was = there_is old link within in
    let first = h.1.puts link was.0 was.1 in
    let same : first.0 ≡ rest.0 = some_same (slice_get h.0 link) first.0 rest.0 first.1 rest.1 in
    let put : PutsAll was.0 (messages_for link one) rest.0 = subst (λ (b : OutboxView). PutsAll was.0 (messages_for link one) b) same (subst (λ (ms : List Message). PutsAll was.0 ms first.0) (append-nil (messages_for link one)) first.2) in
    (was.0, was.1, puts_both was.0 rest.0 o (messages_for link one) (handed_by out link) put rest.2)

hands_each : (old new : List OutboxView) (answer : Option (ℕ × Message)) → Hands old answer new → HandsEach old (out_of answer) new
hands_each old new None h = h
hands_each old new (Some answer) h = (new, h, refl)

-- ---- answers of the stages are no statements

-- an answer that is no statement
abbrev IsAnswer : Option (ℕ × Message) → Type 0
IsAnswer None = Unit {0}
IsAnswer (Some a) = statement_of a.1 ≡ None

asked_is : (link : ℕ) (o : Option Hash) (s : Settled) → IsAnswer (asks_named link o s.wanted)
asked_is link None s = tt
asked_is link (Some hash) s = by_test (is_asked hash link s.wanted)
  where
    by_test : (b : Bool) → IsAnswer (if b then None else Some (link, message.GetSet hash))
    by_test true = tt
    by_test false = refl

answered_is : (hash : Hash) (o : Option QuorumTree) → statement_of (answer hash o) ≡ None
answered_is hash None = refl
answered_is hash (Some set) = refl

if_answer : (b : Bool) (a : Option (ℕ × Message)) → IsAnswer a → IsAnswer (if b then a else None)
if_answer true a h = h
if_answer false a h = tt

side_is : (c : ConnId) (m : SideMessage) (s : Settled) → IsAnswer (replies c m s)
side_is c (side.GetSet hash) s = answered_is hash (lookup hash s.store)
side_is c (side.Set set) s = tt
side_is c (side.NoSet hash) s = tt

reply_is : (s : Settled) (x : Inbound) → IsAnswer (reply_to s x)
reply_is s (inbound.Opened c) = tt
reply_is s (inbound.Carried x) =
    if_answer (is_open x.conn s.queues && not (is_full x.conn s.queues)) (asks (link_number x.conn.from s) (entering s.store x) s.wanted) (asked_is (link_number x.conn.from s) (waited_by (entering s.store x)) s)
reply_is s (inbound.Side c m) = if_answer (is_open c s.queues) (replies c m s) (side_is c m s)
reply_is s (inbound.Closed c cause) = tt
reply_is s (inbound.Local command) = tt

record_is : (link : ℕ) (slot : Slot) (o : Option (List ℕ)) → IsAnswer (option_map (λ value. (link, message.Record slot value)) o)
record_is link slot None = tt
record_is link slot (Some value) = refl

applied_is : (old : ApplierView) (x : Onward) (a : Option (ℕ × Message)) (new : ApplierView) → Takes old x a new → IsAnswer a
applied_is old (Decided d) a new t = subst IsAnswer (sym t.0) tt
applied_is old (Asked link slot) a new t = subst IsAnswer (sym t.0) (record_is link slot (value_of slot.0 old.applied))

answer_out : (a : Option (ℕ × Message)) → IsAnswer a → AllOut (λ link m. statement_of m ≡ None) (out_of a)
answer_out None h = all_none (λ link m. statement_of m ≡ None)
answer_out (Some a) h = all_for (λ link m. statement_of m ≡ None) a.0 a.1 h

-- ---- nothing is sent

abbrev pub IsQuiet : Reply → Type 0
IsQuiet reply = (bytes : List ℕ) → reply ≢ Sent bytes

quiet : (link : ℕ) (event : Event) (reply : Reply) → IsQuiet reply → sent_by link event reply ≡ []
quiet link (Drain l) (Sent bytes) q = absurd (q bytes refl)
quiet link event reply q = refl

-- ---- one step

module _ {D : Type 0} (says : Says D) (puts : PutsKeepOwes) (gives : GivesKeepOwes) (who : Who) (picked : Statement → Type 0) (before : List Message) (link : ℕ) where
  -- how a node stands with this sent
  abbrev pub StandsAt : NodeView D → List Message → Type 0
  StandsAt v sent = Holds who picked before v.ledger (slice_get v.outboxes link) sent

  -- and with what was sent besides
  abbrev pub GoesTo : NodeView D → List Message → List (List ℕ) → Type 0
  GoesTo v sent bytes = (more : List Message) × AreEncoded bytes more × StandsAt v (sent ++ more)

  nothing_more : (v : NodeView D) (sent : List Message) → StandsAt v sent → GoesTo v sent []
  nothing_more v sent h = ([], tt, subst (λ (ms : List Message). StandsAt v ms) (sym (append-nil sent)) h)

  -- neither the ledger nor the outboxes change
  same_there : (old new : NodeView D) (sent : List Message) → new.ledger ≡ old.ledger → new.outboxes ≡ old.outboxes → StandsAt old sent → StandsAt new sent
  same_there old new sent ledger outboxes h = holds_same who picked before old.ledger new.ledger (slice_get old.outboxes link) (slice_get new.outboxes link) sent ledger (ap (λ (xs : List OutboxView). slice_get xs link) outboxes) h

  accepted : (old new : NodeView D) (sent : List Message) (event : Event) → Accepts old event new → StandsAt old sent → StandsAt new sent
  accepted old new sent (Open l) a h = same_there old new sent (ap (λ (v : NodeView D). v.ledger) a.2.3) (ap (λ (v : NodeView D). v.outboxes) a.2.3) h
  accepted old new sent (Send l bytes) a h = same_there old new sent (ap (λ (v : NodeView D). v.ledger) a.2.2) (ap (λ (v : NodeView D). v.outboxes) a.2.2) h
  accepted old new sent (Close l) a h = same_there old new sent (ap (λ (v : NodeView D). v.ledger) a.2.2) (ap (λ (v : NodeView D). v.outboxes) a.2.2) h
  accepted old new sent (Local command) a h = same_there old new sent (ap (λ (v : NodeView D). v.ledger) a.2) (ap (λ (v : NodeView D). v.outboxes) a.2) h
  accepted old new sent event a h = absurd a

  -- an answer is put, which is no statement
  answered : (old new : NodeView D) (sent : List Message) (a : Option (ℕ × Message)) → IsAnswer a → new.ledger ≡ old.ledger → HandsEach old.outboxes (out_of a) new.outboxes → StandsAt old sent → StandsAt new sent
  answered old new sent a none same hands h =
      let next : Holds who picked before old.ledger (slice_get new.outboxes link) sent
      = holds_put who picked before puts old.ledger old.ledger (slice_get old.outboxes link) (slice_get new.outboxes link) sent (handed_by (out_of a) link) h.well (λ s x. x) (put_quiet who old.ledger old.ledger (handed_by (out_of a) link) (answer_out a none link) (λ s l. l)) (put_into link old.outboxes new.outboxes (out_of a) hands) h in
      holds_same who picked before old.ledger new.ledger (slice_get new.outboxes link) (slice_get new.outboxes link) sent same refl next

  slot_takes : (old new : NodeView D) (sent : List Message) → SlotTakes says old new → StandsAt old sent → StandsAt new sent
  slot_takes old new sent b h =
      let t : IsTaken who old.ledger b.took.outgoing b.after' = taken says who old.ledger b.x b.took b.after' h.well b.takes in
      let next : Holds who picked before b.after' (slice_get new.outboxes link) sent
      = holds_put who picked before puts old.ledger b.after' (slice_get old.outboxes link) (slice_get new.outboxes link) sent (handed_by b.took.outgoing link) t.well t.said (t.puts link) (put_into link old.outboxes new.outboxes b.took.outgoing b.hands) h in
      holds_same who picked before b.after' new.ledger (slice_get new.outboxes link) (slice_get new.outboxes link) sent (ap (λ (v : NodeView D). v.ledger) b.is) refl next

  moved : (old new : NodeView D) (sent : List Message) (event : Event) → Moves says old event new → StandsAt old sent → StandsAt new sent
  moved old new sent (ReaderTake l) a h = same_there old new sent (ap (λ (v : NodeView D). v.ledger) a.2.4) (ap (λ (v : NodeView D). v.outboxes) a.2.4) h
  moved old new sent (ReaderPut l) a h = same_there old new sent (ap (λ (v : NodeView D). v.ledger) a.2.4) (ap (λ (v : NodeView D). v.outboxes) a.2.4) h
  moved old new sent PendTake a h = elim a.1 [
    | inl b ↦ same_there old new sent (ap (λ (v : NodeView D). v.ledger) b.is) (ap (λ (v : NodeView D). v.outboxes) b.is) h
    | inr b ↦ answered old new sent (reply_to old.pending.settled b.x) (reply_is old.pending.settled b.x) (ap (λ (v : NodeView D). v.ledger) b.is) (hands_each old.outboxes new.outboxes (reply_to old.pending.settled b.x) b.hands) h
  ]
  moved old new sent PendPut a h = same_there old new sent (ap (λ (v : NodeView D). v.ledger) a.3) (ap (λ (v : NodeView D). v.outboxes) a.3) h
  moved old new sent SlotTake a h = slot_takes old new sent a.1 h
  moved old new sent SlotPut a h = same_there old new sent (ap (λ (v : NodeView D). v.ledger) a.3) (ap (λ (v : NodeView D). v.outboxes) a.3) h
  moved old new sent ApplyTake a h = answered old new sent a.answer (applied_is old.applier a.x a.answer a.after' a.takes) (ap (λ (v : NodeView D). v.ledger) a.is) (hands_each old.outboxes new.outboxes a.answer a.hands) h
  moved old new sent event a h = absurd a

  -- a drain, of this link or another
  link_drained : (old new : NodeView D) (sent : List Message) (l : ℕ) (bytes : List ℕ) → Drains old l bytes new → StandsAt old sent → GoesTo new sent (sent_by link (Drain l) (Sent bytes))
  link_drained old new sent l bytes d h = by_link (nat_eq l link) refl
    where
      g : GivesThere old.outboxes l (Some d.message) new.outboxes
      g = d.gives

      ledger_is : new.ledger ≡ old.ledger
      ledger_is = ap (λ (v : NodeView D). v.ledger) d.is

      here : l ≡ link → StandsAt new (sent ++ d.message ∷ [])
      here same =
          let was : slice_get old.outboxes link ≡ Some g.before = ap (λ (n : ℕ). slice_get old.outboxes n) (sym same) ∙ g.there in
          let is : slice_get new.outboxes link ≡ Some g.after' = ap (λ (xs : List OutboxView). slice_get xs link) g.is ∙ ap (λ (n : ℕ). slice_get (slice_set old.outboxes l g.after') n) (sym same) ∙ set_there old.outboxes l g.before g.after' g.there in
          let started : Holds who picked before old.ledger (Some g.before) sent = subst (λ (o : Option OutboxView). Holds who picked before old.ledger o sent) was h in
          let given : Holds who picked before old.ledger (Some g.after') (sent ++ d.message ∷ []) = holds_given who picked before gives old.ledger g.before g.after' sent d.message g.gives started in
          holds_same who picked before old.ledger new.ledger (Some g.after') (slice_get new.outboxes link) (sent ++ d.message ∷ []) ledger_is is given

      elsewhere : l ≢ link → StandsAt new sent
      elsewhere other = holds_same who picked before old.ledger new.ledger (slice_get old.outboxes link) (slice_get new.outboxes link) sent ledger_is
          (ap (λ (xs : List OutboxView). slice_get xs link) g.is ∙ set_else old.outboxes l link g.after' (λ e. other (sym e))) h

      by_link : (b : Bool) → nat_eq l link ≡ b → GoesTo new sent (if b then bytes ∷ [] else [])
      by_link true e = (d.message ∷ [], (d.spells, tt), here (eqb-true l link e))
      by_link false e = nothing_more new sent (elsewhere (eqb-false l link e))

  drained : (old new : NodeView D) (sent : List Message) (event : Event) (bytes : List ℕ) → SendsOut old event bytes new → StandsAt old sent → GoesTo new sent (sent_by link event (Sent bytes))
  drained old new sent (Drain l) bytes d h = link_drained old new sent l bytes d h
  drained old new sent event bytes d h = absurd d

  -- nothing is sent
  pub and_quiet : (v : NodeView D) (sent : List Message) (event : Event) (reply : Reply) → IsQuiet reply → StandsAt v sent → GoesTo v sent (sent_by link event reply)
  and_quiet v sent event reply q h = subst (λ (bytes : List (List ℕ)). GoesTo v sent bytes) (sym (quiet link event reply q)) (nothing_more v sent h)

  stayed : (old new : NodeView D) (sent : List Message) → new ≡ old → StandsAt old sent → StandsAt new sent
  stayed old new sent e h = subst (λ (v : NodeView D). StandsAt v sent) (sym e) h

  -- a step that leaves a node that runs
  pub one_step : (old new : NodeView D) (sent : List Message) (event : Event) (reply : Reply) → Step says old event reply new → new.failed ≡ false → StandsAt old sent → GoesTo new sent (sent_by link event reply)
  one_step old new sent event Accepted s runs h = and_quiet new sent event Accepted (λ bytes e. cc) (accepted old new sent event s.1 h)
  one_step old new sent event Moved s runs h = and_quiet new sent event Moved (λ bytes e. cc) (moved old new sent event s.1 h)
  one_step old new sent event (Sent bytes) s runs h = drained old new sent event bytes s.1 h
  one_step old new sent event Failed s runs h = and_quiet new sent event Failed (λ bytes e. cc) (stayed old new sent s.1 h)
  one_step old new sent event JournalFull s runs h = absurd (true_isnt (sym s.0.failed ∙ runs))
  one_step old new sent event NoMemory s runs h = absurd (true_isnt (sym s.0.failed ∙ runs))
  one_step old new sent event NoLink s runs h = and_quiet new sent event NoLink (λ bytes e. cc) (stayed old new sent s.2 h)
  one_step old new sent event AlreadyOpen s runs h = and_quiet new sent event AlreadyOpen (λ bytes e. cc) (stayed old new sent s.2 h)
  one_step old new sent event LivesSpent s runs h = and_quiet new sent event LivesSpent (λ bytes e. cc) (stayed old new sent s.2 h)
  one_step old new sent event NotOpen s runs h = and_quiet new sent event NotOpen (λ bytes e. cc) (stayed old new sent s.2 h)
  one_step old new sent event Full s runs h = and_quiet new sent event Full (λ bytes e. cc) (stayed old new sent s.2 h)
  one_step old new sent event Blocked s runs h = and_quiet new sent event Blocked (λ bytes e. cc) (stayed old new sent s.2 h)
  one_step old new sent event Idle s runs h = and_quiet new sent event Idle (λ bytes e. cc) (stayed old new sent s.2 h)
