-- No more marks wait than were left.
use Rattle.std.proofs.Common.{arith, ◌≡◌, ◌≤◌, ◌<◌, lt_of_not-le, Bool, true, false, List, [], ◌∷◌, length, length-append, refl, ap}
use Rattle.scp_outbox.specs.scp_wire.specs.Boxed.{Boxed}
use Rattle.scp_outbox.specs.scp_wire.specs.declared.message.Message.{Message}
use Rattle.scp_outbox.specs.scp_wire.specs.declared.message.Message.TheVariants.{Envelope, GetSet, Set, NoSet, GetRecord, Record, Records}
use Rattle.scp_outbox.specs.declared.mark.Mark.{Mark}
use Rattle.scp_outbox.specs.declared.mark.Out.{Out}
use Rattle.scp_outbox.specs.Outbox.{OutboxView, given_statements, given_messages, given_live, given_from}
use Rattle.scp_outbox.specs.Outbox as outbox
use Rattle.scp_shared_outbox.specs.declared.turn.Turn.{Turn}
use Rattle.scp_shared_outbox.specs.declared.turn.Turn.TheVariants.{Puts, Marks, Gives}
use Rattle.scp_shared_outbox.specs.declared.turn.Part.{Part}
use Rattle.scp_shared_outbox.specs.Turns.{Stands, marked}
use Rattle.scp_shared_outbox.specs.inside.Rule.{IsInHand}

pub same_after_put : (old : OutboxView) (message : Message) (new : OutboxView) → outbox.Puts old message new → new.marks ≡ old.marks
same_after_put old (Envelope envelope) new put = ap (λ v. v.marks) put.3
same_after_put old (GetSet hash) new put = ap (λ v. v.marks) put
same_after_put old (Set set) new put = ap (λ v. v.marks) put
same_after_put old (NoSet hash) new put = ap (λ v. v.marks) put
same_after_put old (GetRecord slot) new put = ap (λ v. v.marks) put
same_after_put old (Record slot value) new put = ap (λ v. v.marks) put
same_after_put old (Records first values) new put = ap (λ v. v.marks) put

same_statements : (v : OutboxView) (xs : List Boxed) → (given_statements v xs).1.marks ≡ v.marks
same_statements v [] = refl
same_statements v (x ∷ xs) = refl

same_messages : (v : OutboxView) (xs : List Message) → (given_messages v xs).1.marks ≡ v.marks
same_messages v [] = same_statements v v.statements
same_messages v (x ∷ xs) = refl

same_live : (v : OutboxView) (live : Bool) → (given_live v live).1.marks ≡ v.marks
same_live v true = same_messages v v.ring
same_live v false = refl

fewer : (v : OutboxView) (xs : List Mark) → v.marks ≡ xs → length (given_from v xs).1.marks ≤ length v.marks
fewer v [] is = let same = ap length (same_live v v.live) in omega arith
fewer v (x ∷ xs) is = let long = ap length is in omega arith

fewer_after : (old : OutboxView) (out : Out) (new : OutboxView) → outbox.Gives old out new → length new.marks ≤ length old.marks
fewer_after old out new gives = let few = fewer old old.marks refl in let same = ap (λ (p : Out × OutboxView). length p.1.marks) gives in omega arith

pub few_wait : (turns : List Turn) (o : OutboxView) → Stands turns o → length o.marks ≤ length (marked turns)
few_wait [] o stands = let none = ap (λ (v : OutboxView). length v.marks) stands in omega arith
few_wait (Puts p message ∷ turns) o stands = let few = few_wait turns stands.0 stands.1 in let same = ap length (same_after_put stands.0 message o stands.2) in omega arith
few_wait (Marks mark ∷ turns) o stands =
    let few = few_wait turns stands.0 stands.1 in
    let more = ap (λ (v : OutboxView). length v.marks) stands.2 in
    omega (arith, length-append stands.0.marks (mark ∷ []), length-append (marked turns) (mark ∷ []))
few_wait (Gives out ∷ turns) o stands = let few = few_wait turns stands.0 stands.1 in let less = fewer_after stands.0 out o stands.2 in omega arith

-- if 16 marks wait, as many were left
pub full_left : (v w : Part) (o : OutboxView) → IsInHand v o w → v.marks ≡ true → (length o.marks < 16 → ⊥) → 16 ≤ length v.marked
full_left v w o hand may full =
    let few = few_wait hand.0 o hand.2 in
    let known = ap length (hand.3 may) in
    let many : 15 < length o.marks = lt_of_not-le (λ le. full (omega arith)) in
    omega arith
