-- What a handler did to one link is a step of the node.
use Rattle.std.proofs.Common.{◌≡◌, ◌≢◌, ◌+◌, ℕ, Bool, true, false, List, [], ◌∷◌, refl, sym, ◌∙◌, ap, subst, inl, inr, zero, suc, length}
use Rattle.std.specs.Prelude.{◌↔◌, Option, Some, None, map, slice_get, slice_set, Result, Ok, Err, is_ok, OnOk, nat_lt, if◌then◌else◌}
use Rattle.std.proofs.lemmas.Bool.{ltb-true, lt-ltb}
use Rattle.scp_theorem.specs.scp_driver.specs.Driver.{Says}
use Rattle.scp_theorem.specs.scp_types.specs.declared.fault.Fault.TheVariants as faults
use Rattle.scp_theorem.specs.scp_types.specs.declared.names.NodeId.{NodeId}
use Rattle.scp_theorem.specs.scp_wire.specs.declared.link.Inbound.{Inbound}
use Rattle.scp_core.specs.declared.event.Event.{Event}
use Rattle.scp_core.specs.declared.event.Event.TheVariants.{Open, Send, Close, ReaderTake, ReaderPut, SlotTake, ApplyTake, Drain}
use Rattle.scp_core.specs.declared.event.Reply.{Reply}
use Rattle.scp_core.specs.declared.event.Reply.TheVariants.{NoLink, AlreadyOpen, LivesSpent, NotOpen, Full, Accepted, Blocked, Idle, Moved, Sent, JournalFull, NoMemory}
use Rattle.scp_theorem.specs.scp_pending.specs.declared.ready.Ready.{Ready}
use Rattle.scp_theorem.specs.scp_pending.specs.Rules.{PendingView}
use Rattle.scp_theorem.specs.scp_pending.specs.Pends.{Pends, IsSettled, IsIdle}
use Rattle.scp_core.specs.History.{peer_at}
use Rattle.scp_core.specs.Node.{LinkView, NodeView, with_link, Step, Fails, LeavesRoom, Hands, said_in, life_of, room_in, room_of, room_at}
use Rattle.scp_theorem.specs.scp_ledger.specs.Takes.{adds_entry}
use Rattle.scp_theorem.specs.scp_ledger.specs.Seen.{LedgerView}
use Rattle.scp_theorem.specs.scp_ledger.specs.By.{TakesBy, TellsBy}
use Rattle.scp_theorem.specs.scp_wire.specs.declared.message.Message.{Message}
use Rattle.scp_theorem.specs.scp_outbox.specs.Outbox.{OutboxView}
use Rattle.scp_theorem.specs.scp_outbox.specs.Handing.{GivesAt, GivesThere}
use Rattle.scp_theorem.specs.scp_apply.specs.Applier.{ApplierView}
use Rattle.scp_theorem.specs.scp_apply.specs.Applier.{Takes as ApplierTakes}
use Rattle.scp_core.specs.inside.Decider.{DeciderView, Decides, AppliesNext, Applies, Keeps}
use Rattle.scp_core.specs.inside.Draining.{Draws, IsSpelt, empty_reply}
use Rattle.scp_theorem.proofs.Basics.{set_else, set_there, there_is}
use Rattle.scp_core.proofs.Queues.{within}
use Rattle.scp_core.specs.inside.Links.{Opens, Sends, Closes, Reads, Gives, OnLinks, Puts}

set_same : {X : Type 0} (xs : List X) (l : ℕ) (x : X) → slice_get xs l ≡ Some x → slice_set xs l x ≡ xs
set_same [] l x e = refl
set_same (y ∷ ys) zero x e = cc
set_same (y ∷ ys) (suc l) x e = ap (λ zs. y ∷ zs) (set_same ys l x e)

module _ {D : Type 0} where
  -- the links of a node are put back as they were
  abbrev with_links : NodeView D → List LinkView → NodeView D
  with_links v links = record v { links = links }

  same : (v : NodeView D) (l : ℕ) (k k2 : LinkView) (links : List LinkView) → slice_get v.links l ≡ Some k → k2 ≡ k → links ≡ slice_set v.links l k2 → with_links v links ≡ v
  same v l k k2 links there e is = ap (with_links v) (is ∙ ap (slice_set v.links l) e ∙ set_same v.links l k there)

  here : (v : NodeView D) (l : ℕ) (k2 k3 : LinkView) (links : List LinkView) → k2 ≡ k3 → links ≡ slice_set v.links l k2 → with_links v links ≡ with_link v l k3
  here v l k2 k3 links e is = ap (with_links v) (is ∙ ap (slice_set v.links l) e)

  nothing : (v : NodeView D) (links : List LinkView) → links ≡ v.links → with_links v links ≡ v
  nothing v links e = ap (with_links v) e

module _ {D : Type 0} (says : Says D) where
  open-at : (v : NodeView D) (l : ℕ) (reply : Reply) (links : List LinkView) (k k2 : LinkView) → v.failed ≡ false → slice_get v.links l ≡ Some k → Opens (peer_at v.config l) v.config.me k reply k2 → links ≡ slice_set v.links l k2 → Step says v (Open l) reply (with_links v links)
  open-at v l AlreadyOpen links k k2 r there d is = (r, (k, there, d.0), same v l k k2 links there d.1 is)
  open-at v l LivesSpent links k k2 r there d is = (r, (k, there, (d.0, d.1)), same v l k k2 links there d.2 is)
  open-at v l Full links k k2 r there d is = (r, (k, there, (d.0, d.1, d.2)), same v l k k2 links there d.3 is)
  open-at v l Accepted links k k2 r there d is = (r, (k, there, (d.0, d.1, d.2, here v l k2 _ links d.3 is)))
  open-at v l reply links k k2 r there d is = absurd d

  pub open-step : (v : NodeView D) (l : ℕ) (reply : Reply) (links : List LinkView) → v.failed ≡ false → OnLinks (Opens (peer_at v.config l) v.config.me) v.links l reply links → Step says v (Open l) reply (with_links v links)
  open-step v l reply links r o = elim o [
    | inl n ↦ subst (λ (a : Reply). Step says v (Open l) a (with_links v links)) (sym n.1) (r, n.0, nothing v links n.2)
    | inr d ↦ open-at v l reply links d.0 d.1 r d.2 d.3 d.4
  ]

  send-at : (v : NodeView D) (l : ℕ) (bytes : List ℕ) (reply : Reply) (links : List LinkView) (k k2 : LinkView) → v.failed ≡ false → slice_get v.links l ≡ Some k → Sends (peer_at v.config l) v.config.me bytes k reply k2 → links ≡ slice_set v.links l k2 → Step says v (Send l bytes) reply (with_links v links)
  send-at v l bytes NotOpen links k k2 r there d is = (r, (k, there, d.0), same v l k k2 links there d.1 is)
  send-at v l bytes Full links k k2 r there d is = (r, (k, there, (d.0, d.1)), same v l k k2 links there d.2 is)
  send-at v l bytes Accepted links k k2 r there d is = (r, (k, there, (d.0, d.1, here v l k2 _ links d.2 is)))
  send-at v l bytes reply links k k2 r there d is = absurd d

  pub send-step : (v : NodeView D) (l : ℕ) (bytes : List ℕ) (reply : Reply) (links : List LinkView) → v.failed ≡ false → OnLinks (Sends (peer_at v.config l) v.config.me bytes) v.links l reply links → Step says v (Send l bytes) reply (with_links v links)
  send-step v l bytes reply links r o = elim o [
    | inl n ↦ subst (λ (a : Reply). Step says v (Send l bytes) a (with_links v links)) (sym n.1) (r, n.0, nothing v links n.2)
    | inr d ↦ send-at v l bytes reply links d.0 d.1 r d.2 d.3 d.4
  ]

  close-at : (v : NodeView D) (l : ℕ) (reply : Reply) (links : List LinkView) (k k2 : LinkView) → v.failed ≡ false → slice_get v.links l ≡ Some k → Closes (peer_at v.config l) v.config.me k reply k2 → links ≡ slice_set v.links l k2 → Step says v (Close l) reply (with_links v links)
  close-at v l NotOpen links k k2 r there d is = (r, (k, there, d.0), same v l k k2 links there d.1 is)
  close-at v l Full links k k2 r there d is = (r, (k, there, (d.0, d.1)), same v l k k2 links there d.2 is)
  close-at v l Accepted links k k2 r there d is = (r, (k, there, (d.0, d.1, here v l k2 _ links d.2 is)))
  close-at v l reply links k k2 r there d is = absurd d

  pub close-step : (v : NodeView D) (l : ℕ) (reply : Reply) (links : List LinkView) → v.failed ≡ false → OnLinks (Closes (peer_at v.config l) v.config.me) v.links l reply links → Step says v (Close l) reply (with_links v links)
  close-step v l reply links r o = elim o [
    | inl n ↦ subst (λ (a : Reply). Step says v (Close l) a (with_links v links)) (sym n.1) (r, n.0, nothing v links n.2)
    | inr d ↦ close-at v l reply links d.0 d.1 r d.2 d.3 d.4
  ]

lives_same : (xs : List LinkView) (l : ℕ) (k k2 : LinkView) → slice_get xs l ≡ Some k → k2.life ≡ k.life → map life_of (slice_set xs l k2) ≡ map life_of xs
lives_same [] l k k2 there e = refl
lives_same (x ∷ xs) zero k k2 there e = ap (λ n. n ∷ map life_of xs) (e ∙ sym (ap life_of (the_first x k there)))
  where
    the_first : (a b : LinkView) → Some a ≡ Some b → a ≡ b
    the_first a b e = cc
lives_same (x ∷ xs) (suc l) k k2 there e = ap (λ ns. x.life ∷ ns) (lives_same xs l k k2 there e)

module _ {D : Type 0} where
  -- one item fewer waits at the link
  one_more : (v : NodeView D) (l : ℕ) (k k2 : LinkView) (links : List LinkView) → slice_get v.links l ≡ Some k → room_in k2 ≡ room_in k + 1 → links ≡ slice_set v.links l k2 → LeavesRoom v (ReaderTake l) (record v { links = links; failed = true; fault = Some faults.NoMemory })
  one_more v l k k2 links there more is =
      let now : slice_get links l ≡ Some k2 = ap (λ (xs : List LinkView). slice_get xs l) is ∙ set_there v.links l k k2 there in (
        ap room_of now ∙ more ∙ sym (ap (λ (o : Option LinkView). room_of o + 1) there),
        λ other ne. ap (λ (xs : List LinkView). room_of (slice_get xs other)) is ∙ ap room_of (set_else v.links l other k2 ne),
      )

  -- a reader's take; if memory runs out the node fails
  abbrev failing : NodeView D → Reply → NodeView D
  failing v NoMemory = record v { failed = true; fault = Some faults.NoMemory }
  failing v reply = v

module _ {D : Type 0} (says : Says D) where
  read-at : (v : NodeView D) (l : ℕ) (reply : Reply) (links : List LinkView) (k k2 : LinkView) → v.failed ≡ false → slice_get v.links l ≡ Some k → Reads k reply k2 → links ≡ slice_set v.links l k2 → Step says v (ReaderTake l) reply (failing (with_links v links) reply)
  read-at v l Blocked links k k2 r there d is = (r, (k, there, d.0), same v l k k2 links there d.1 is)
  read-at v l Idle links k k2 r there d is = (r, (k, there, (d.0, d.1)), same v l k k2 links there d.2 is)
  read-at v l Moved links k k2 r there d is = (r, (k, there, (d.0, d.1, d.2, d.3, here v l k2 _ links d.4 is)))
  read-at v l NoMemory links k k2 r there d is = (record { was = r; failed = refl; keeps = record { config = refl; journal = refl; decisions = refl; asked = refl; command = refl; said = refl; applied = refl; lives = ap (map life_of) is ∙ lives_same v.links l k k2 there d.2 }; room = one_more v l k k2 links there d.3 is }, (k, there, (d.0, d.1)), refl)
  read-at v l reply links k k2 r there d is = absurd d

  pub read-step : (v : NodeView D) (l : ℕ) (reply : Reply) (links : List LinkView) → v.failed ≡ false → OnLinks Reads v.links l reply links → Step says v (ReaderTake l) reply (failing (with_links v links) reply)
  read-step v l reply links r o = elim o [
    | inl n ↦ subst (λ (a : Reply). Step says v (ReaderTake l) a (failing (with_links v links) a)) (sym n.1) (r, n.0, nothing v links n.2)
    | inr d ↦ read-at v l reply links d.0 d.1 r d.2 d.3 d.4
  ]

module _ {D : Type 0} where
  failing-not : (v : NodeView D) (reply : Reply) → reply ≢ NoMemory → failing v reply ≡ v
  failing-not v NoMemory ne = absurd (ne refl)
  failing-not v reply ne = refl

module _ {D : Type 0} (says : Says D) where
  pub read-kept : (v : NodeView D) (l : ℕ) (reply : Reply) (links : List LinkView) → reply ≢ NoMemory → v.failed ≡ false → OnLinks Reads v.links l reply links → Step says v (ReaderTake l) reply (with_links v links)
  read-kept v l reply links ne r o = subst (λ (w : NodeView D). Step says v (ReaderTake l) reply w) (failing-not (with_links v links) reply ne) (read-step says v l reply links r o)

  pub read-failed : (v w : NodeView D) (l : ℕ) (reply : Reply) (links : List LinkView) → reply ≡ NoMemory → v.failed ≡ false → OnLinks Reads v.links l reply links → w ≡ record v { links = links; failed = true; fault = Some faults.NoMemory } → Step says v (ReaderTake l) reply w
  read-failed v w l reply links e r o is = subst (λ (u : NodeView D). Step says v (ReaderTake l) reply u) (ap (failing (with_links v links)) e ∙ sym is) (read-step says v l reply links r o)

  put-at : (v : NodeView D) (l : ℕ) (full : Bool) (reply : Reply) (links : List LinkView) (k k2 : LinkView) → (full ≡ true → length v.inbox ≡ v.inbox_room) → v.failed ≡ false → slice_get v.links l ≡ Some k → Gives k full (Err reply) k2 → links ≡ slice_set v.links l k2 → Step says v (ReaderPut l) reply (with_links v links)
  put-at v l full Idle links k k2 b r there d is = (r, (k, there, d.0), same v l k k2 links there d.1 is)
  put-at v l full Blocked links k k2 b r there d is = (r, (k, there, (d.0, b d.1)), same v l k k2 links there d.2 is)
  put-at v l full reply links k k2 b r there d is = absurd d

abbrev refused : Reply → Result Inbound Reply
refused a = Err a

same_err : (a b : Reply) → refused a ≡ refused b → a ≡ b
same_err a b e = cc

module _ {D : Type 0} (says : Says D) where
  pub put-refused : (v : NodeView D) (l : ℕ) (full : Bool) (reply : Reply) (links : List LinkView) → (full ≡ true → length v.inbox ≡ v.inbox_room) → v.failed ≡ false → Puts v.links l full (Err reply) links → Step says v (ReaderPut l) reply (with_links v links)
  put-refused v l full reply links b r o = elim o [
    | inl n ↦ subst (λ (a : Reply). Step says v (ReaderPut l) a (with_links v links)) (sym (same_err reply NoLink n.1)) (r, n.0, nothing v links n.2)
    | inr d ↦ put-at says v l full reply links d.0 d.1 b r d.2 d.3 d.4
  ]

pub on_ok : {X Y : Type 0} (P : Type 0) (r : Result X Y) → is_ok r ≡ true → OnOk r P → P
on_ok P (Ok x) e h = h
on_ok P (Err y) e h = absurd cc

-- nothing was ready
pub is_idle : (v : PendingView) (thing : Option Ready) → thing ≡ None → ((me : NodeId) → (peers : List NodeId) → (taken : List Inbound) → (given : List Ready) → Pends me peers taken given v → (thing ≡ None ↔ IsSettled me peers taken v)) → IsIdle v
is_idle v thing none settled = λ me peers taken given p. (settled me peers taken given p).0 none

-- ---- the slot stage

module _ {D : Type 0} where
  abbrev with_decider : NodeView D → DeciderView D → NodeView D
  with_decider v d = record v { failed = d.failed; fault = d.fault; ledger = d.ledger; slot_hand = d.hand; last_command = d.last_command; last_said = d.last_said; decided = d.queue; decided_room = d.room; applier = d.applier }

isnt_empty : {X : Type 0} (x : X) (rest : List X) → x ∷ rest ≡ [] → ⊥
isnt_empty x rest e = cc

same_first : {X : Type 0} (x y : X) (xs ys : List X) → x ∷ xs ≡ y ∷ ys → x ≡ y
same_first x y xs ys e = cc

module _ {D : Type 0} where
  fails_by : (v u w : NodeView D) (event : Event) (d d2 : DeciderView D) → (((l : ℕ) → room_at w l ≡ room_at v l) → LeavesRoom v event w) → v ≡ with_decider v d → w ≡ with_decider u d2 → u.config ≡ v.config → u.links ≡ v.links → v.failed ≡ false → Keeps d d2 → Fails v event w
  fails_by v u w event d d2 leaves e is config links runs k = record {
    was = runs;
    failed = ap (λ (x : NodeView D). x.failed) is ∙ k.failed;
    keeps = record {
      config = ap (λ (x : NodeView D). x.config) is ∙ config;
      journal = ap (λ (x : NodeView D). x.ledger.journal) is ∙ k.journal ∙ sym (ap (λ (x : NodeView D). x.ledger.journal) e);
      decisions = ap (λ (x : NodeView D). x.ledger.decisions) is ∙ k.decisions ∙ sym (ap (λ (x : NodeView D). x.ledger.decisions) e);
      asked = ap (λ (x : NodeView D). x.ledger.asked) is ∙ k.asked ∙ sym (ap (λ (x : NodeView D). x.ledger.asked) e);
      command = ap (λ (x : NodeView D). x.last_command) is ∙ k.command ∙ sym (ap (λ (x : NodeView D). x.last_command) e);
      said = ap (λ (x : NodeView D). x.last_said) is ∙ k.said ∙ sym (ap (λ (x : NodeView D). x.last_said) e);
      applied = ap (λ (x : NodeView D). x.applier.applied) is ∙ k.applied ∙ sym (ap (λ (x : NodeView D). x.applier.applied) e);
      lives = ap (λ (x : NodeView D). map life_of x.links) is ∙ ap (map life_of) links;
    };
    room = leaves (λ l. ap (λ (x : NodeView D). room_at x l) is ∙ ap (λ (xs : List LinkView). room_of (slice_get xs l)) links);
  }

  slot-fails : (v w : NodeView D) (d d2 : DeciderView D) (rest : List Ready) → v ≡ with_decider v d → w ≡ with_decider (record v { ready = rest; outboxes = w.outboxes }) d2 → v.failed ≡ false → Keeps d d2 → Fails v SlotTake w
  slot-fails v w d d2 rest e is runs k = fails_by v (record v { ready = rest; outboxes = w.outboxes }) w SlotTake d d2 (λ same. same) e is refl refl runs k

module _ {D : Type 0} (says : Says D) where
  pub slot-step : (v w : NodeView D) (d d2 : DeciderView D) (x : Ready) (rest : List Ready) (reply : Reply) → v ≡ with_decider v d → w ≡ with_decider (record v { ready = rest; outboxes = w.outboxes }) d2 → v.failed ≡ false → v.slot_hand ≡ None → v.ready ≡ x ∷ rest → Decides says d v.outboxes x reply d2 w.outboxes → Step says v SlotTake reply w
  slot-step v w d d2 x rest Moved e is runs empty q h = (
    runs,
    (
      empty,
      record {
        x = x;
        rest = rest;
        ready = q;
        after' = d2.ledger;
        took = h.0;
        takes = subst (λ (l : LedgerView D). TakesBy says l x h.0 d2.ledger) (sym (ap (λ (u : NodeView D). u.ledger) e)) h.1;
        tells = subst (λ (l : LedgerView D). TellsBy says l x h.0) (sym (ap (λ (u : NodeView D). u.ledger) e)) h.2;
        known = h.3;
        running = h.4;
        hands = h.6;
        is = is ∙ ap (with_decider (record v { ready = rest; outboxes = w.outboxes })) h.5 ∙ ap (λ (u : NodeView D). record u { ready = rest; ledger = d2.ledger; slot_hand = h.0.onward; last_command = h.0.command; last_said = said_in h.0.outgoing; outboxes = w.outboxes }) (sym e);
      },
    ),
  )
  slot-step v w d d2 x rest JournalFull e is runs empty q h = (slot-fails v w d d2 rest e is runs h.2, (empty, x, rest, q, h.0, ap (λ (u : NodeView D). length u.ledger.journal) e ∙ h.1), ap (λ (u : NodeView D). u.fault) is ∙ h.3)
  slot-step v w d d2 x rest NoMemory e is runs empty q h = (slot-fails v w d d2 rest e is runs h.1, (empty, (λ none. isnt_empty x rest (sym q ∙ none)), λ fills. h.0 (subst (λ (y : Ready). adds_entry y ≡ true) (sym (same_first x fills.1 rest fills.2 (sym q ∙ fills.3))) fills.4, sym (ap (λ (u : NodeView D). length u.ledger.journal) e) ∙ fills.5)), ap (λ (u : NodeView D). u.fault) is ∙ h.2)
  slot-step v w d d2 x rest reply e is runs empty q h = absurd h

  -- ---- the applier

  pub apply-step : (v w : NodeView D) (d d2 : DeciderView D) (answer : Option (ℕ × Message)) → v ≡ with_decider v d → w ≡ with_decider (record v { outboxes = w.outboxes }) d2 → v.failed ≡ false → AppliesNext d answer d2 → Hands v.outboxes answer w.outboxes → Step says v ApplyTake Moved w
  apply-step v w d d2 answer e is runs a hands = (
    runs,
    record {
      x = a.x;
      rest = a.rest;
      decided = ap (λ (u : NodeView D). u.decided) e ∙ a.queue;
      after' = d2.applier;
      answer = answer;
      takes = subst (λ (l : ApplierView). ApplierTakes l a.x answer d2.applier) (sym (ap (λ (u : NodeView D). u.applier) e)) a.takes;
      known = a.known;
      running = a.running;
      hands = hands;
      is = is ∙ ap (with_decider (record v { outboxes = w.outboxes })) a.is ∙ ap (λ (u : NodeView D). record u { decided = a.rest; applier = d2.applier; outboxes = w.outboxes }) (sym e);
    },
  )

  pub apply-refused : (v w : NodeView D) (d d2 : DeciderView D) (reply : Reply) → v ≡ with_decider v d → w ≡ with_decider v d2 → v.failed ≡ false → Applies d (Err reply) d2 → Step says v ApplyTake reply w
  apply-refused v w d d2 Idle e is runs h = (runs, ap (λ (u : NodeView D). u.decided) e ∙ h.0, is ∙ ap (with_decider v) h.1 ∙ sym e)
  apply-refused v w d d2 NoMemory e is runs h = (fails_by v v w ApplyTake d d2 (λ same. same) e is refl refl runs h.1, (λ none. h.0 (sym (ap (λ (u : NodeView D). u.decided) e) ∙ none)), ap (λ (u : NodeView D). u.fault) is ∙ h.2)
  apply-refused v w d d2 reply e is runs h = absurd h

-- ---- a drain

module _ {D : Type 0} where
  abbrev with_outboxes : NodeView D → List OutboxView → NodeView D
  with_outboxes v boxes = record v { outboxes = boxes }

-- the link's outbox gives nothing, and all stays
gives_nothing : (old : List OutboxView) (l : ℕ) (new : List OutboxView) (g : GivesThere old l None new) → new ≡ old
gives_nothing old l new g = g.is ∙ ap (slice_set old l) g.gives.1 ∙ set_same old l g.before g.there

module _ {D : Type 0} (says : Says D) where
  drain-step : (v : NodeView D) (l : ℕ) (reply : Reply) (boxes : List OutboxView) → v.failed ≡ false → Draws v.outboxes l reply boxes → Step says v (Drain l) reply (failing (with_outboxes v boxes) reply)
  drain-step v l (Sent bytes) boxes r d = (r, record { message = d.0; gives = d.1; spells = d.2; is = refl })
  drain-step v l NoMemory boxes r d = (record { was = r; failed = refl; keeps = record { config = refl; journal = refl; decisions = refl; asked = refl; command = refl; said = refl; applied = refl; lives = refl }; room = λ k. refl }, (d.0, boxes, d.1), refl)
  drain-step v l Idle boxes r d = (r, (d.before, d.there, (d.gives.0, refl)), ap (with_outboxes v) (gives_nothing v.outboxes l boxes d))
  drain-step v l NoLink boxes r d = (r, d.0, ap (with_outboxes v) d.1)
  drain-step v l reply boxes r d = absurd d

  pub drain-kept : (v : NodeView D) (l : ℕ) (reply : Reply) (boxes : List OutboxView) → reply ≢ NoMemory → v.failed ≡ false → Draws v.outboxes l reply boxes → Step says v (Drain l) reply (with_outboxes v boxes)
  drain-kept v l reply boxes ne r d = subst (λ (w : NodeView D). Step says v (Drain l) reply w) (failing-not (with_outboxes v boxes) reply ne) (drain-step v l reply boxes r d)

  pub drain-failed : (v w : NodeView D) (l : ℕ) (reply : Reply) (boxes : List OutboxView) → reply ≡ NoMemory → v.failed ≡ false → Draws v.outboxes l reply boxes → w ≡ record v { outboxes = boxes; failed = true; fault = Some faults.NoMemory } → Step says v (Drain l) reply w
  drain-failed v w l reply boxes e r d is = subst (λ (u : NodeView D). Step says v (Drain l) reply u) (ap (failing (with_outboxes v boxes)) e ∙ sym is) (drain-step v l reply boxes r d)

-- nothing is next at the link
past_end : (boxes : List OutboxView) (l : ℕ) (o : OutboxView) → nat_lt l (length boxes) ≡ false → slice_get boxes l ≡ Some o → ⊥
past_end boxes l o e there = true_isnt (sym (lt-ltb l (length boxes) (within boxes l o there)) ∙ e)
  where
    true_isnt : true ≡ false → ⊥
    true_isnt e = cc

there_not : (boxes : List OutboxView) (l : ℕ) → nat_lt l (length boxes) ≡ true → slice_get boxes l ≡ None → ⊥
there_not boxes l e none =
    let here = there_is boxes l (ltb-true l (length boxes) e) in
    some_isnt here.0 (sym here.1 ∙ none)
  where
    some_isnt : (o : OutboxView) → Some o ≡ None → ⊥
    some_isnt o e = cc

nothing_by : (old : List OutboxView) (l : ℕ) (new : List OutboxView) (b : Bool) → nat_lt l (length new) ≡ b → GivesAt old l None new → Draws old l (if b then Idle else NoLink) new
nothing_by old l new true e g = elim g [
  | inl n ↦ absurd (there_not old l (subst (λ (boxes : List OutboxView). nat_lt l (length boxes) ≡ true) n.2 e) n.0)
  | inr t ↦ t
]
nothing_by old l new false e g = elim g [
  | inl n ↦ (n.0, n.2)
  | inr t ↦ absurd (past_end old l t.before (subst (λ (boxes : List OutboxView). nat_lt l (length boxes) ≡ false) (gives_nothing old l new t) e) t.there)
]

pub draws_nothing : (old : List OutboxView) (l : ℕ) (new : List OutboxView) (reply : Reply) → reply ≡ empty_reply (length new) l → GivesAt old l None new → Draws old l reply new
draws_nothing old l new reply is g = subst (λ (a : Reply). Draws old l a new) (sym is) (nothing_by old l new (nat_lt l (length new)) refl g)

given_there : (old : List OutboxView) (l : ℕ) (message : Message) (new : List OutboxView) → GivesAt old l (Some message) new → GivesThere old l (Some message) new
given_there old l message new g = elim g [
  | inl n ↦ absurd (isnt n.1)
  | inr t ↦ t
]
  where
    isnt : Some message ≡ None → ⊥
    isnt e = cc

pub draws_next : (old : List OutboxView) (l : ℕ) (message : Message) (new : List OutboxView) (reply : Reply) → GivesAt old l (Some message) new → IsSpelt message reply → Draws old l reply new
draws_next old l message new (Sent bytes) g s = (message, given_there old l message new g, s)
draws_next old l message new NoMemory g s = (message, given_there old l message new g)
draws_next old l message new reply g s = absurd s
