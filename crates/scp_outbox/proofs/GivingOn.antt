-- What an outbox gives next was handed out, and is newer than what was given before.
use Rattle.std.proofs.Common.{◌≡◌, ℕ, Bool, true, false, List, [], ◌∷◌, ◌++◌, refl, sym, subst, arith, All, get_or, suc}
use Rattle.std.specs.Prelude.{Option, Some, None, AllPairs, Contains}
use Rattle.std.specs.List.{AllZip}
use Rattle.std.proofs.lemmas.List.Elements.{All-push, All-tail}
use Rattle.std.proofs.lemmas.List.Quantifiers.{all_pairs_push}
use Rattle.scp_wire.specs.scp_envelope.specs.declared.statement.Statement.{Statement}
use Rattle.scp_wire.specs.Boxed.{Boxed}
use Rattle.scp_wire.specs.Message.{message_value, SpellsMessage}
use Rattle.scp_wire.specs.declared.message.Message.{Message}
use Rattle.scp_wire.specs.declared.message.Message.TheVariants.{Envelope}
use Rattle.scp_outbox.specs.Outbox.{OutboxView, are_alike, AreOneEach, given_statements, given_messages, given_live, given_from}
use Rattle.scp_outbox.specs.declared.mark.Mark.{Mark}
use Rattle.scp_outbox.specs.declared.mark.Out.{Out}
use Rattle.scp_outbox.specs.declared.mark.Out.TheVariants as out
use Rattle.scp_outbox.specs.Sent.{statement_of, IsStep, AreNewer}
use Rattle.scp_outbox.specs.Waiting.{Owes, and_given}
use Rattle.scp_outbox.specs.Sending.{GivesKeepOwes, GivesKeepSends, MarksKeepSends, SendsAreSent}
use Rattle.scp_outbox.proofs.WaitingOn.{mark_left}

step_none : (o : Option Statement) → IsStep o None
step_none None = tt
step_none (Some s) = tt

newer_push : (ms : List Message) (m : Message) → All (λ n. IsStep (statement_of n) (statement_of m)) ms → AreNewer ms → AreNewer (ms ++ m ∷ [])
newer_push ms m h newer = all_pairs_push (λ a b. IsStep (statement_of a) (statement_of b)) ms m newer (λ k d below. h k d below)

-- a request or an answer is given
gives_ring : (handed ms : List Message) (o : OutboxView) (m : Message) (rest : List Message) → o.ring ≡ m ∷ rest → Owes handed ms o → Owes handed (ms ++ m ∷ []) (record o { ring = rest })
gives_ring handed ms o m rest first h =
    let P : Message → Type 0 = λ n. (statement_of n ≡ None) × Contains handed n in
    let all : All P (m ∷ rest) = subst (All P) first h.ring in
    let here : P m = all 0 m (omega arith) in
    let step : (o : Option Statement) → IsStep o (statement_of m) = λ o. subst (IsStep o) (sym here.0) (step_none o) in
    let ahead : All (λ (e : Boxed). IsStep (statement_of m) (Some e.value.statement)) o.statements = λ k d below. subst (λ s. IsStep s (Some (get_or o.statements k d).value.statement)) (sym here.0) tt in
    record {
      were_handed = All-push (Contains handed) ms m h.were_handed here.1;
      newer = newer_push ms m (λ k d below. step (statement_of (get_or ms k d))) h.newer;
      ring = All-tail P m rest all;
      statements = h.statements;
      one_each = h.one_each;
      ahead = All-push (λ n. All (λ (e : Boxed). IsStep (statement_of n) (Some e.value.statement)) o.statements) ms m h.ahead ahead;
    }

-- a statement is given
gives_statement : (handed ms : List Message) (o : OutboxView) (e : Boxed) (rest : List Boxed) → o.statements ≡ e ∷ rest → Owes handed ms o → Owes handed (ms ++ Envelope e ∷ []) (record o { statements = rest })
gives_statement handed ms o e rest first h =
    let P : Boxed → Type 0 = λ b. Contains handed (Envelope b) in
    let all : All P (e ∷ rest) = subst (All P) first h.statements in
    let one : AllPairs (λ (a b : Boxed). are_alike a.value.statement b.value.statement ≡ false) (e ∷ rest) = subst AreOneEach first h.one_each in
    let apart : All (λ (b : Boxed). IsStep (Some e.value.statement) (Some b.value.statement)) rest = λ k d below alike. (let no = one 0 (suc k) d (omega arith) (omega arith) in absurd (cc (no, alike))) in
    let steps : (n : Message) → All (λ (b : Boxed). IsStep (statement_of n) (Some b.value.statement)) o.statements → All (λ (b : Boxed). IsStep (statement_of n) (Some b.value.statement)) (e ∷ rest) = λ n. subst (All (λ (b : Boxed). IsStep (statement_of n) (Some b.value.statement))) first in
    record {
      were_handed = All-push (Contains handed) ms (Envelope e) h.were_handed (all 0 e (omega arith));
      newer = newer_push ms (Envelope e) (λ k d below. steps (get_or ms k d) (h.ahead k d below) 0 e (omega arith)) h.newer;
      ring = h.ring;
      statements = All-tail P e rest all;
      one_each = λ i j d lt below. one (suc i) (suc j) d (omega arith) (omega arith);
      ahead = All-push (λ n. All (λ (b : Boxed). IsStep (statement_of n) (Some b.value.statement)) rest) ms (Envelope e) (λ k d below. All-tail (λ (b : Boxed). IsStep (statement_of (get_or ms k d)) (Some b.value.statement)) e rest (steps (get_or ms k d) (h.ahead k d below))) apart;
    }

-- this is given, and this is left
abbrev After : List Message → List Message → Out × OutboxView → Type 0
After handed ms x = Owes handed (and_given ms x.0) x.1

after_statements : (handed ms : List Message) (o : OutboxView) (statements : List Boxed) → o.statements ≡ statements → Owes handed ms o → After handed ms (given_statements o statements)
after_statements handed ms o [] first h = h
after_statements handed ms o (e ∷ rest) first h = gives_statement handed ms o e rest first h

after_messages : (handed ms : List Message) (o : OutboxView) (ring : List Message) → o.ring ≡ ring → Owes handed ms o → After handed ms (given_messages o ring)
after_messages handed ms o [] first h = after_statements handed ms o o.statements refl h
after_messages handed ms o (m ∷ rest) first h = gives_ring handed ms o m rest first h

after_live : (handed ms : List Message) (o : OutboxView) (live : Bool) → Owes handed ms o → After handed ms (given_live o live)
after_live handed ms o true h = after_messages handed ms o o.ring refl h
after_live handed ms o false h = h

after_marks : (handed ms : List Message) (o : OutboxView) (marks : List Mark) → Owes handed ms o → After handed ms (given_from o marks)
after_marks handed ms o [] h = after_live handed ms o o.live h
after_marks handed ms o (mark ∷ rest) h = record { were_handed = h.were_handed; newer = h.newer; ring = h.ring; statements = h.statements; one_each = h.one_each; ahead = h.ahead }

pub gives : GivesKeepOwes
gives handed ms o result p is h = subst (After handed ms) (sym is) (after_marks handed ms o o.marks h)

spelt_push : (sent : List (List ℕ)) (ms : List Message) (bytes : List ℕ) (m : Message) → AllZip (λ bytes m. SpellsMessage bytes (message_value m)) sent ms → SpellsMessage bytes (message_value m) → AllZip (λ bytes m. SpellsMessage bytes (message_value m)) (sent ++ bytes ∷ []) (ms ++ m ∷ [])
spelt_push [] [] bytes m h k = (k, tt)
spelt_push [] (n ∷ ms) bytes m h k = absurd h
spelt_push (b ∷ sent) [] bytes m h k = absurd h
spelt_push (b ∷ sent) (n ∷ ms) bytes m h k = (h.0, spelt_push sent ms bytes m h.1 k)

pub gives_next : GivesKeepSends
gives_next handed sent o p m bytes is spells h =
    let waits = gives handed h.sent.messages o (out.Message m) p is h.waits in
    record {
      sent = record { messages = h.sent.messages ++ m ∷ []; spelt = spelt_push sent h.sent.messages bytes m h.sent.spelt spells; were_handed = waits.were_handed; newer = waits.newer };
      waits = waits;
    }

pub marks : MarksKeepSends
marks handed sent o mark h = (
  λ p is. record { sent = h.sent; waits = gives handed h.sent.messages o (out.Mark mark) p is h.waits },
  record { sent = h.sent; waits = mark_left handed h.sent.messages o mark h.waits },
)

pub sends_are_sent : SendsAreSent
sends_are_sent handed sent o h = h.sent
