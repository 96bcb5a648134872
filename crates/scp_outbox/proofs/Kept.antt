-- The limits, that all fits, and at most one statement of each slot and kind, whatever comes or goes.
use Rattle.std.proofs.Common.{◌≡◌, ℕ, ◌+◌, ◌-◌, ◌≤◌, Bool, true, false, List, [], ◌∷◌, ◌++◌, length, refl, sym, ap, subst, arith, All, set, suc, inl, inr}
use Rattle.std.specs.Prelude.{Option, Some, None, position, slice_set, MatchOption}
use Rattle.std.proofs.lemmas.List.{length-drop}
use Rattle.std.proofs.lemmas.List.Elements.{All-head, All-tail, All-push, All-drop, All-set}
use Rattle.std.proofs.Math.ListN.{length-set}
use Rattle.circular_buffer.specs.Buffer.{Buffer, buffer, keep_last}
use Rattle.scp_wire.specs.Boxed.{Boxed}
use Rattle.scp_wire.specs.declared.message.Message.{Message}
use Rattle.scp_wire.specs.declared.message.Message.TheVariants.{Envelope, GetSet, Set, NoSet, GetRecord, Record, Records}
use Rattle.scp_wire.specs.Fitting.{IsFitting}
use Rattle.scp_outbox.specs.declared.mark.Mark.{Mark}
use Rattle.scp_outbox.specs.declared.mark.Out.{Out}
use Rattle.scp_outbox.proofs.OneEach.{one_each_takes}
use Rattle.scp_outbox.specs.Outbox.{OutboxView, are_alike, AreOneEach, Takes, Replaces, GoesLast, counted, Puts, Gives, live_after, given_statements, given_messages, given_live, given_from, IfMessage, IsOutbox}

abbrev Fitting : Boxed → Type 0
Fitting e = IsFitting (Envelope e)

pub one_each-tail : (x : Boxed) (xs : List Boxed) → AreOneEach (x ∷ xs) → AreOneEach xs
one_each-tail x xs h i j d lt within = h (suc i) (suc j) d (omega arith) (omega arith)

-- the limit, and that each fits
abbrev Within : List Boxed → Type 0
Within xs = (length xs ≤ 64) × All Fitting xs

within_by : (xs : List Boxed) (e : Boxed) (new : List Boxed) (lost : ℕ) (o : Option ℕ) → Within xs → Fitting e → MatchOption o (GoesLast xs e new lost) (λ place. Replaces xs place e new lost) → Within new
within_by xs e new lost None h fits k =
    let all = xs ++ e ∷ [] in
    let few : length (keep_last 64 all) ≤ 64 = omega (arith, length-drop (length all - 64) all) in
    subst Within (sym k.0) (few, All-drop Fitting (length all - 64) all (All-push Fitting xs e h.1 fits))
within_by xs e new lost (Some i) h fits k = elim k.2 [
  | inl w ↦ (let few : length (slice_set xs i e) ≤ 64 = omega (arith, length-set xs i e, h.0) in subst Within (sym w.1) (few, All-set Fitting xs i e fits h.1))
  | inr w ↦ subst Within (sym w.1) h
]

-- a statement comes
pub takes_known : (v : OutboxView) (e : Boxed) (new : List Boxed) (lost count : ℕ) → IsOutbox v → Fitting e → Takes v.statements e new lost → IsOutbox (record v { statements = new; overwritten = count })
takes_known v e new lost count h fits k =
    let r = within_by v.statements e new lost (position (λ (held : Boxed). are_alike held.value.statement e.value.statement) v.statements) (h.statements, h.statements_fit) fits k in
    record { marks = h.marks; ring = h.ring; statements = r.0; one_each = one_each_takes v.statements e new lost h.one_each k; ring_fits = h.ring_fits; statements_fit = r.1 }

-- another message comes
pub ring_takes_known : (v : OutboxView) (m : Message) → IsOutbox v → IsFitting m → IsOutbox (record v { ring = keep_last 64 (v.ring ++ m ∷ []) })
ring_takes_known v m h fits =
    let all = v.ring ++ m ∷ [] in
    let few : length (keep_last 64 all) ≤ 64 = omega (arith, length-drop (length all - 64) all) in
    record { marks = h.marks; ring = few; statements = h.statements; one_each = h.one_each; ring_fits = All-drop IsFitting (length all - 64) all (All-push IsFitting v.ring m h.ring_fits fits); statements_fit = h.statements_fit }

-- the first statement leaves
pub leaves_known : (v : OutboxView) (x : Boxed) (rest : List Boxed) → v.statements ≡ x ∷ rest → IsOutbox v → IsOutbox (record v { statements = rest })
leaves_known v x rest is h =
    let all : AreOneEach (x ∷ rest) = subst AreOneEach is h.one_each in
    let few : length (x ∷ rest) ≤ 64 = subst (λ l. length l ≤ 64) is h.statements in
    let fit : All Fitting (x ∷ rest) = subst (All Fitting) is h.statements_fit in
    record { marks = h.marks; ring = h.ring; statements = omega arith; one_each = one_each-tail x rest all; ring_fits = h.ring_fits; statements_fit = All-tail Fitting x rest fit }

-- the first of the ring leaves
pub ring_leaves_known : (v : OutboxView) (x : Message) (rest : List Message) → v.ring ≡ x ∷ rest → IsOutbox v → IsOutbox (record v { ring = rest })
ring_leaves_known v x rest is h =
    let few : length (x ∷ rest) ≤ 64 = subst (λ l. length l ≤ 64) is h.ring in
    let fit : All IsFitting (x ∷ rest) = subst (All IsFitting) is h.ring_fits in
    record { marks = h.marks; ring = omega arith; statements = h.statements; one_each = h.one_each; ring_fits = All-tail IsFitting x rest fit; statements_fit = h.statements_fit }

-- the first mark leaves
pub mark_leaves_known : (v : OutboxView) (x : Mark) (rest : List Mark) (live : Bool) → v.marks ≡ x ∷ rest → IsOutbox v → IsOutbox (record v { marks = rest; live = live })
mark_leaves_known v x rest live is h =
    let few : length (x ∷ rest) ≤ 16 = subst (λ l. length l ≤ 16) is h.marks in
    record { marks = omega arith; ring = h.ring; statements = h.statements; one_each = h.one_each; ring_fits = h.ring_fits; statements_fit = h.statements_fit }

-- the whole, by the definitions
pub puts_known : (v : OutboxView) (m : Message) (new : OutboxView) → IsOutbox v → IsFitting m → Puts v m new → IsOutbox new
puts_known v (Envelope e) new h fits k = subst IsOutbox (sym k.3) (takes_known v e k.0 k.1 (counted v.overwritten k.1) h fits k.2)
puts_known v (GetSet hash) new h fits k = subst IsOutbox (sym k) (ring_takes_known v (GetSet hash) h fits)
puts_known v (Set set) new h fits k = subst IsOutbox (sym k) (ring_takes_known v (Set set) h fits)
puts_known v (NoSet hash) new h fits k = subst IsOutbox (sym k) (ring_takes_known v (NoSet hash) h fits)
puts_known v (GetRecord slot) new h fits k = subst IsOutbox (sym k) (ring_takes_known v (GetRecord slot) h fits)
puts_known v (Record slot value) new h fits k = subst IsOutbox (sym k) (ring_takes_known v (Record slot value) h fits)
puts_known v (Records first values) new h fits k = subst IsOutbox (sym k) (ring_takes_known v (Records first values) h fits)

statements_given_known : (v : OutboxView) (xs : List Boxed) → v.statements ≡ xs → IsOutbox v → IsOutbox (given_statements v xs).1 × IfMessage (given_statements v xs).0 IsFitting
statements_given_known v [] is h = (h, tt)
statements_given_known v (x ∷ rest) is h = (leaves_known v x rest is h, All-head Fitting x rest (subst (All Fitting) is h.statements_fit))

messages_given_known : (v : OutboxView) (xs : List Message) → v.ring ≡ xs → IsOutbox v → IsOutbox (given_messages v xs).1 × IfMessage (given_messages v xs).0 IsFitting
messages_given_known v [] is h = statements_given_known v v.statements refl h
messages_given_known v (x ∷ rest) is h = (ring_leaves_known v x rest is h, All-head IsFitting x rest (subst (All IsFitting) is h.ring_fits))

live_given_known : (v : OutboxView) (live : Bool) → IsOutbox v → IsOutbox (given_live v live).1 × IfMessage (given_live v live).0 IsFitting
live_given_known v true h = messages_given_known v v.ring refl h
live_given_known v false h = (h, tt)

marks_given_known : (v : OutboxView) (xs : List Mark) → v.marks ≡ xs → IsOutbox v → IsOutbox (given_from v xs).1 × IfMessage (given_from v xs).0 IsFitting
marks_given_known v [] is h = live_given_known v v.live h
marks_given_known v (x ∷ rest) is h = (mark_leaves_known v x rest (live_after x v.live) is h, tt)

pub gives_known : (v : OutboxView) (given_out : Out) (new : OutboxView) → IsOutbox v → Gives v given_out new → IsOutbox new × IfMessage given_out IsFitting
gives_known v given_out new h k =
    let r = marks_given_known v v.marks refl h in
    subst (λ (p : Out × OutboxView). IsOutbox p.1 × IfMessage p.0 IsFitting) (sym k) r

-- a message that isn't a statement was pushed
pub record Pushed (v : OutboxView) (new : Buffer Message) : Type 0 where
  pub known : IsOutbox (record v { ring = new.items })
  pub capacity : new.capacity ≡ 64

pub pushed_known : (v : OutboxView) (m : Message) (capacity : ℕ) (new : Buffer Message) → capacity ≡ 64 → new ≡ buffer (keep_last capacity (v.ring ++ m ∷ [])) capacity → IsOutbox v → IsFitting m → Pushed v new
pushed_known v m capacity new full is h fits =
    let at : new ≡ buffer (keep_last 64 (v.ring ++ m ∷ [])) 64 = subst (λ k. new ≡ buffer (keep_last k (v.ring ++ m ∷ [])) k) full is in
    record {
      known = subst (λ (xs : List Message). IsOutbox (record v { ring = xs })) (sym (ap (λ (b : Buffer Message). b.items) at)) (ring_takes_known v m h fits);
      capacity = ap (λ (b : Buffer Message). b.capacity) at;
    }
