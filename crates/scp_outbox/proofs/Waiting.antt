-- What waits was put.
use Rattle.std.proofs.Common.{◌≡◌, ℕ, ◌-◌, ◌⊎◌, Bool, true, false, List, [], ◌∷◌, ◌++◌, length, refl, sym, subst, All, inl, inr}
use Rattle.std.specs.Prelude.{Contains, Option, Some, None, position, MatchOption}
use Rattle.std.proofs.lemmas.List.Elements.{All-head, All-tail, All-push, All-drop, All-set, All-weaker, All-contains, All-contains_itself}
use Rattle.circular_buffer.specs.Buffer.{keep_last}
use Rattle.scp_wire.specs.Boxed.{Boxed}
use Rattle.scp_wire.specs.declared.message.Message.{Message}
use Rattle.scp_wire.specs.declared.message.Message.TheVariants.{Envelope, GetSet, Set, NoSet, GetRecord, Record, Records}
use Rattle.scp_outbox.specs.declared.mark.Mark.{Mark}
use Rattle.scp_outbox.specs.declared.mark.Out.{Out}
use Rattle.scp_outbox.specs.Outbox.{OutboxView, are_alike, GoesLast, Replaces, Puts, Gives, given_statements, given_messages, given_live, given_from, IfMessage}
use Rattle.scp_outbox.specs.Laws.{Waits}

-- each message that waits has the property
record AllWait (P : Message → Type 0) (v : OutboxView) : Type 0 where
  ring : All P v.ring
  statements : All (λ (e : Boxed). P (Envelope e)) v.statements

module _ (P : Message → Type 0) where
  abbrev Holds : Boxed → Type 0
  Holds e = P (Envelope e)

  held_by : (xs : List Boxed) (e : Boxed) (new : List Boxed) (lost : ℕ) (o : Option ℕ) → All Holds xs → P (Envelope e) → MatchOption o (GoesLast xs e new lost) (λ place. Replaces xs place e new lost) → All Holds new
  held_by xs e new lost None h p k = subst (All Holds) (sym k.0) (All-drop Holds (length (xs ++ e ∷ []) - 64) (xs ++ e ∷ []) (All-push Holds xs e h p))
  held_by xs e new lost (Some i) h p k = elim k.2 [ inl w ↦ subst (All Holds) (sym w.1) (All-set Holds xs i e p h) | inr w ↦ subst (All Holds) (sym w.1) h ]

  ring_put : (v : OutboxView) (m : Message) (new : OutboxView) → new ≡ record v { ring = keep_last 64 (v.ring ++ m ∷ []) } → P m → AllWait P v → AllWait P new
  ring_put v m new is p h = subst (AllWait P) (sym is) (record { ring = All-drop P (length (v.ring ++ m ∷ []) - 64) (v.ring ++ m ∷ []) (All-push P v.ring m h.ring p); statements = h.statements })

  put_keeps : (v : OutboxView) (m : Message) (new : OutboxView) → Puts v m new → P m → AllWait P v → AllWait P new
  put_keeps v (Envelope e) new k p h = subst (AllWait P) (sym k.3) (record { ring = h.ring; statements = held_by v.statements e k.0 k.1 (position (λ (held : Boxed). are_alike held.value.statement e.value.statement) v.statements) h.statements p k.2 })
  put_keeps v (GetSet hash) new k p h = ring_put v (GetSet hash) new k p h
  put_keeps v (Set set) new k p h = ring_put v (Set set) new k p h
  put_keeps v (NoSet hash) new k p h = ring_put v (NoSet hash) new k p h
  put_keeps v (GetRecord slot) new k p h = ring_put v (GetRecord slot) new k p h
  put_keeps v (Record slot value) new k p h = ring_put v (Record slot value) new k p h
  put_keeps v (Records first values) new k p h = ring_put v (Records first values) new k p h

  statements_given : (v : OutboxView) (xs : List Boxed) → v.statements ≡ xs → AllWait P v → AllWait P (given_statements v xs).1 × IfMessage (given_statements v xs).0 P
  statements_given v [] is h = (h, tt)
  statements_given v (x ∷ rest) is h =
      let all : All Holds (x ∷ rest) = subst (All Holds) is h.statements in
      (record { ring = h.ring; statements = All-tail Holds x rest all }, All-head Holds x rest all)

  messages_given : (v : OutboxView) (xs : List Message) → v.ring ≡ xs → AllWait P v → AllWait P (given_messages v xs).1 × IfMessage (given_messages v xs).0 P
  messages_given v [] is h = statements_given v v.statements refl h
  messages_given v (x ∷ rest) is h =
      let all : All P (x ∷ rest) = subst (All P) is h.ring in
      (record { ring = All-tail P x rest all; statements = h.statements }, All-head P x rest all)

  live_given : (v : OutboxView) (live : Bool) → AllWait P v → AllWait P (given_live v live).1 × IfMessage (given_live v live).0 P
  live_given v true h = messages_given v v.ring refl h
  live_given v false h = (h, tt)

  marks_given : (v : OutboxView) (xs : List Mark) → AllWait P v → AllWait P (given_from v xs).1 × IfMessage (given_from v xs).0 P
  marks_given v [] h = live_given v v.live h
  marks_given v (x ∷ rest) h = (record { ring = h.ring; statements = h.statements }, tt)

  give_keeps : (v : OutboxView) (given_out : Out) (new : OutboxView) → Gives v given_out new → AllWait P v → AllWait P new × IfMessage given_out P
  give_keeps v given_out new k h = subst (λ (p : Out × OutboxView). AllWait P p.1 × IfMessage p.0 P) (sym k) (marks_given v v.marks h)

  waits_has : (v : OutboxView) (m : Message) → AllWait P v → Waits v m → P m
  waits_has v m h (inl w) = All-contains P v.ring m h.ring w
  waits_has v m h (inr w) = subst P (sym w.1) (All-contains Holds v.statements w.0 h.statements w.2)

all_waits : (v : OutboxView) → AllWait (Waits v) v
all_waits v = record {
  ring = All-weaker (Contains v.ring) (Waits v) (λ m w. inl w) v.ring (All-contains_itself v.ring);
  statements = All-weaker (Contains v.statements) (λ (e : Boxed). Waits v (Envelope e)) (λ e w. inr (e, refl, w)) v.statements (All-contains_itself v.statements);
}

pub put_adds : (old : OutboxView) (put : Message) (new : OutboxView) → Puts old put new → (m : Message) → Waits new m → Waits old m ⊎ (m ≡ put)
put_adds old put new k m w =
    let before = all_waits old in
    let Q : Message → Type 0 = λ x. Waits old x ⊎ (x ≡ put) in
    let start : AllWait Q old = record {
      ring = All-weaker (Waits old) Q (λ x p. inl p) old.ring before.ring;
      statements = All-weaker (λ (e : Boxed). Waits old (Envelope e)) (λ (e : Boxed). Q (Envelope e)) (λ e p. inl p) old.statements before.statements;
    } in
    waits_has Q new m (put_keeps Q old put new k (inr refl) start) w

pub given_waited : (old : OutboxView) (given_out : Out) (new : OutboxView) → Gives old given_out new → IfMessage given_out (Waits old)
given_waited old given_out new k = (give_keeps (Waits old) old given_out new k (all_waits old)).1

pub give_adds_nothing : (old : OutboxView) (given_out : Out) (new : OutboxView) → Gives old given_out new → (m : Message) → Waits new m → Waits old m
give_adds_nothing old given_out new k m w = waits_has (Waits old) new m (give_keeps (Waits old) old given_out new k (all_waits old)).0 w
