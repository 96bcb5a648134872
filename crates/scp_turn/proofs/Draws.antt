-- What waits goes out, link by link.
use Rattle.std.proofs.Common.{◌≡◌, ◌≢◌, ◌+◌, ℕ, zero, suc, List, [], ◌∷◌, ◌++◌, refl, sym, ◌∙◌, ap, subst, append_assoc, append-nil, arith}
use Rattle.std.specs.Prelude.{slice_get, slice_set, replicate, if◌then◌else◌, nat_eq, Result, Ok, Err, OnOk}
use Rattle.std.proofs.lemmas.Result.{on_ok_weaker}
use Rattle.scp_core.specs.scp_types.specs.declared.fault.Fault.{Fault}
use Rattle.std.proofs.lemmas.List.{map-append}
use Rattle.std.proofs.lemmas.Grind.{flat_map-append}
use Rattle.scp_core.specs.scp_driver.specs.Driver.{Says}
use Rattle.scp_core.specs.scp_outbox.specs.Outbox.{OutboxView}
use Rattle.scp_core.specs.scp_outbox.specs.Handing.{waiting_in, waiting_at}
use Rattle.scp_core.specs.scp_wire.specs.declared.link.Bytes.{Bytes}
use Rattle.scp_core.specs.declared.event.Event.{Event}
use Rattle.scp_core.specs.declared.event.Event.TheVariants as event
use Rattle.scp_core.specs.declared.event.Reply.{Reply}
use Rattle.scp_core.specs.declared.event.Reply.TheVariants as reply
use Rattle.scp_core.specs.History.{Exchange}
use Rattle.scp_core.specs.Node.{NodeView, Step, accepts_at}
use Rattle.scp_core.specs.Sent.{sent_by as bytes_by}
use Rattle.scp_core.specs.Theorem.{LedgerTheorem}
use Rattle.scp_turn.specs.Watch.{Noting, Watched}
use Rattle.scp_turn.specs.Turn.{events_of}
use Rattle.scp_turn.specs.declared.sending.Sending.{Sending}
use Rattle.scp_turn.specs.Episode.{IsSentReply, drains_of, leaving_at, sent_by, sent_in}
use Rattle.scp_turn.specs.WentOut.{SendingsAreSent, bytes_over}
use Rattle.scp_turn.specs.inside.Draining.{Drained, GoesDraws, OthersStay, RestStay}
use Rattle.scp_turn.proofs.Going.{goes_nothing, goes_then, all_on, watched_on}
use Rattle.scp_turn.proofs.GoingOn.{goes_one, watched_one}

-- ---- other links stay

get_other : (xs : List OutboxView) (k j : ℕ) (y : OutboxView) → j ≢ k → slice_get (slice_set xs k y) j ≡ slice_get xs j
get_other [] k j y h = refl
get_other (x ∷ xs) zero zero y h = absurd (h refl)
get_other (x ∷ xs) zero (suc j) y h = refl
get_other (x ∷ xs) (suc k) zero y h = refl
get_other (x ∷ xs) (suc k) (suc j) y h = get_other xs k j y (λ e. h (ap suc e))

module _ {D : Type 0} (says : Says D) where
  -- a drain of a link leaves the others as they were
  pub others_stay : (v w : NodeView D) (l : ℕ) (bytes : Bytes) → Step says v (event.Drain l) (reply.Sent bytes) w → OthersStay l v w
  others_stay v w l bytes s m apart =
      let d = s.1 in
      let waits : waiting_at w.outboxes m ≡ waiting_at v.outboxes m =
      ap (λ (o : List OutboxView). waiting_at o m) d.gives.is ∙ ap waiting_in (get_other v.outboxes l m d.gives.after' apart) in
      ap (λ (u : NodeView D). leaving_at u m) d.is ∙ ap (λ (n : ℕ). if accepts_at v m then n else 0) waits

module _ {D : Type 0} where
  pub stay_on : (l : ℕ) (a b c : NodeView D) → OthersStay l a b → OthersStay l b c → OthersStay l a c
  stay_on l a b c p q m apart = q m apart ∙ p m apart

  pub rest_stay : (l : ℕ) (a b c : NodeView D) → RestStay l a b → OthersStay l b c → RestStay (l + 1) a c
  rest_stay l a b c p q m le = q m (λ e. absurd (omega (arith, le, e))) ∙ p m (omega (arith, le))

-- ---- what was drained adds up

pub drained_none : (sent : List Sending) → Drained [] sent sent []
drained_none sent = record { events_are = refl; sent = tt; added = sym (append-nil sent) }

pub drained_on : (es fs : List Event) (before mid after' : List Sending) (x y : List Exchange) → Drained es before mid x → Drained fs mid after' y → Drained (es ++ fs) before after' (x ++ y)
drained_on es fs before mid after' x y p q = record {
  events_are = map-append (λ (e : Exchange). e.0) x y ∙ ap (λ (l : List Event). l ++ events_of y) p.events_are ∙ ap (λ (l : List Event). es ++ l) q.events_are;
  sent = all_on (λ (e : Exchange). IsSentReply e.1) x y p.sent q.sent;
  added = q.added ∙ ap (λ (l : List Sending). l ++ sent_in y) p.added ∙ append_assoc before (sent_in x) (sent_in y)
      ∙ ap (λ (l : List Sending). before ++ l) (sym (flat_map-append (λ (e : Exchange). sent_by e.0 e.1) x y));
}

-- what a drain sent
pub drained_one : (l : ℕ) (bytes : Bytes) (before after' : List Sending) → after' ≡ before ++ record { link = l; bytes = bytes } ∷ [] → Drained (event.Drain l ∷ []) before after' ((event.Drain l, reply.Sent bytes) ∷ [])
drained_one l bytes before after' is = record { events_are = refl; sent = (tt, tt); added = is }

module _ {D : Type 0} (says : Says D) where
  -- a node runs on that sent
  pub sent_runs : (v w : NodeView D) (l : ℕ) (bytes : Bytes) → Step says v (event.Drain l) (reply.Sent bytes) w → w.failed ≡ v.failed
  sent_runs v w l bytes s = ap (λ (u : NodeView D). u.failed) s.1.is

-- ---- what was drained, unless it was refused

-- it wasn't refused
abbrev pub done : Result (Unit {0}) Fault
done = Ok tt

module _ {D : Type 0} (says : Says D) where
  pub draws_none : {W : Type 0} (Note : Noting D W) (w : W) (a : NodeView D) (sent : List Sending) → GoesDraws says Note done w a a (λ heard. Drained [] sent sent heard) w
  draws_none Note w a sent = goes_nothing says a (λ o heard n. OnOk done (Drained [] sent sent heard) × Watched says Note 1 w o heard n w) (drained_none sent, (refl, refl))

  -- so much, and then more, or a refusal
  pub draws_then : {W : Type 0} (Note : Noting D W) (s : Result (Unit {0}) Fault) (w v z : W) (a b c : NodeView D) (es fs : List Event) (before mid after' : List Sending) → GoesDraws says Note done w a b (λ heard. Drained es before mid heard) v → GoesDraws says Note s v b c (λ heard. Drained fs mid after' heard) z → GoesDraws says Note s w a c (λ heard. Drained (es ++ fs) before after' heard) z
  draws_then Note s w v z a b c es fs before mid after' f g =
      goes_then says a b c (λ o heard n. OnOk done (Drained es before mid heard) × Watched says Note 1 w o heard n v) (λ o heard n. OnOk s (Drained fs mid after' heard) × Watched says Note 1 v o heard n z) (λ o heard n. OnOk s (Drained (es ++ fs) before after' heard) × Watched says Note 1 w o heard n z)
      (λ h k dh dk p q. (
        on_ok_weaker s (λ (d : Drained fs mid after' k). drained_on es fs before mid after' h k p.0 d) q.0,
        watched_on says Note 1 w v z a b c h k p.1 q.1,
      )) f g

  -- and then a refusal that is handed on
  pub draws_err : {W : Type 0} (Note : Noting D W) (y : Fault) (r s : Result (Unit {0}) Fault) (w v z : W) (a b c : NodeView D) (P Q R : List Exchange → Type 0) → GoesDraws says Note r w a b P v → GoesDraws says Note s v b c Q z → GoesDraws says {T = Unit {0}} Note (Err y) w a c R z
  draws_err Note y r s w v z a b c P Q R f g =
      goes_then says a b c (λ o heard n. OnOk r (P heard) × Watched says Note 1 w o heard n v) (λ o heard n. OnOk s (Q heard) × Watched says Note 1 v o heard n z) (λ o heard n. OnOk {T = Unit {0}} {E = Fault} (Err y) (R heard) × Watched says Note 1 w o heard n z)
      (λ h k dh dk p q. (tt, watched_on says Note 1 w v z a b c h k p.1 q.1)) f g

  pub draws_as : {W : Type 0} (Note : Noting D W) (r : Result (Unit {0}) Fault) (w z : W) (a b : NodeView D) (es fs : List Event) (before after' : List Sending) → es ≡ fs → GoesDraws says Note r w a b (λ heard. Drained es before after' heard) z → GoesDraws says Note r w a b (λ heard. Drained fs before after' heard) z
  draws_as Note r w z a b es fs before after' is g = subst (λ (l : List Event). GoesDraws says Note r w a b (λ heard. Drained l before after' heard) z) is g

module _ {D : Type 0} where
  -- the drains of a link more
  pub all_with : (a b : NodeView D) (l count : ℕ) → count ≡ leaving_at b l → RestStay l a b → drains_of a l ++ replicate count (event.Drain l) ≡ drains_of a (l + 1)
  all_with a b l count is stay =
      let e : l + 1 ≡ suc l = omega arith in
      ap (λ (k : ℕ). drains_of a l ++ replicate k (event.Drain l)) (is ∙ stay l (omega arith)) ∙ ap (λ (k : ℕ). drains_of a k) (sym e)

module _ {D : Type 0} (says : Says D) where
  -- a message of a link was sent, and added unless there was no memory
  pub draw_sent : {W : Type 0} (Note : Noting D W) (r : Result (Unit {0}) Fault) (w z : W) (a b : NodeView D) (l : ℕ) (bytes : Bytes) (before after' : List Sending) → Step says a (event.Drain l) (reply.Sent bytes) b → ((past : List Exchange) → LedgerTheorem says past a → LedgerTheorem says (past ++ (event.Drain l, reply.Sent bytes) ∷ []) b) → Note w 1 (event.Drain l) (reply.Sent bytes) a b z → OnOk r (after' ≡ before ++ record { link = l; bytes = bytes } ∷ []) → GoesDraws says Note r w a b (λ heard. Drained (event.Drain l ∷ []) before after' heard) z
  draw_sent Note r w z a b l bytes before after' step theorem note added =
      goes_one says a b (event.Drain l) (reply.Sent bytes) (λ o heard n. OnOk r (Drained (event.Drain l ∷ []) before after' heard) × Watched says Note 1 w o heard n z) step theorem
      (on_ok_weaker r (λ (is : after' ≡ before ++ record { link = l; bytes = bytes } ∷ []). drained_one l bytes before after' is) added, watched_one says Note w z a b (event.Drain l) (reply.Sent bytes) step note)

  -- none was sent
  pub draw_refused : {W : Type 0} (Note : Noting D W) (w z : W) (a b : NodeView D) (l : ℕ) (r : Reply) (y : Fault) (P : List Exchange → Type 0) → Step says a (event.Drain l) r b → ((past : List Exchange) → LedgerTheorem says past a → LedgerTheorem says (past ++ (event.Drain l, r) ∷ []) b) → Note w 1 (event.Drain l) r a b z → GoesDraws says {T = Unit {0}} Note (Err y) w a b P z
  draw_refused Note w z a b l r y P step theorem note =
      goes_one says a b (event.Drain l) r (λ o heard n. OnOk {T = Unit {0}} {E = Fault} (Err y) (P heard) × Watched says Note 1 w o heard n z) step theorem (tt, watched_one says Note w z a b (event.Drain l) r step note)

pub on_ok_any : {P : Type 0} (r : Result (Unit {0}) Fault) → P → OnOk r P
on_ok_any (Ok x) p = p
on_ok_any (Err y) p = tt

-- ---- what was sent over a link

one_sent : (e : Event) (r : Reply) (link : ℕ) → bytes_over link (sent_by e r) ≡ bytes_by link e r
one_sent (event.Open l) r link = refl
one_sent (event.Send l bytes) r link = refl
one_sent (event.Close l) r link = refl
one_sent (event.Local command) r link = refl
one_sent (event.ReaderTake l) r link = refl
one_sent (event.ReaderPut l) r link = refl
one_sent event.PendTake r link = refl
one_sent event.PendPut r link = refl
one_sent event.SlotTake r link = refl
one_sent event.SlotPut r link = refl
one_sent event.ApplyTake r link = refl
one_sent (event.Drain l) reply.Accepted link = refl
one_sent (event.Drain l) reply.Moved link = refl
one_sent (event.Drain l) (reply.Sent bytes) link = append-nil (if nat_eq l link then bytes ∷ [] else [])
one_sent (event.Drain l) reply.Idle link = refl
one_sent (event.Drain l) reply.Blocked link = refl
one_sent (event.Drain l) reply.Full link = refl
one_sent (event.Drain l) reply.NotOpen link = refl
one_sent (event.Drain l) reply.AlreadyOpen link = refl
one_sent (event.Drain l) reply.LivesSpent link = refl
one_sent (event.Drain l) reply.NoLink link = refl
one_sent (event.Drain l) reply.Failed link = refl
one_sent (event.Drain l) reply.JournalFull link = refl
one_sent (event.Drain l) reply.NoMemory link = refl

pub sendings_are_sent : SendingsAreSent
sendings_are_sent [] link = refl
sendings_are_sent (x ∷ heard) link =
    flat_map-append (λ (s : Sending). if nat_eq s.link link then s.bytes ∷ [] else []) (sent_by x.0 x.1) (sent_in heard)
    ∙ ap (λ (l : List (List ℕ)). l ++ bytes_over link (sent_in heard)) (one_sent x.0 x.1 link)
    ∙ ap (λ (l : List (List ℕ)). bytes_by link x.0 x.1 ++ l) (sendings_are_sent heard link)
