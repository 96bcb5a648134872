-- What is put into outboxes, and what they give, is one.
use Rattle.std.proofs.Common.{◌≡◌, ℕ, List, [], ◌∷◌, length, suc, refl, sym, ◌∙◌, ap, subst, inl, inr, arith}
use Rattle.std.specs.Prelude.{Option, Some, None, slice_get, slice_set, position, MatchOption}
use Rattle.scp_theorem.specs.scp_envelope.specs.Newer.{IsNewer}
use Rattle.scp_theorem.specs.scp_wire.specs.Boxed.{Boxed}
use Rattle.scp_theorem.specs.scp_wire.specs.declared.message.Message.{Message}
use Rattle.scp_theorem.specs.scp_wire.specs.declared.message.Message.TheVariants.{Envelope, GetSet, Set, NoSet, GetRecord, Record, Records}
use Rattle.scp_theorem.specs.scp_outbox.specs.Outbox.{OutboxView, are_alike, Replaces, GoesLast, Takes, counted, Puts, given}
use Rattle.scp_theorem.specs.scp_outbox.specs.declared.mark.Out.{Out}
use Rattle.scp_theorem.specs.scp_outbox.specs.declared.mark.Out.TheVariants as out
use Rattle.scp_theorem.specs.scp_outbox.specs.Handing.{PutsAll, HandsOut, GivesNext, GivesThere}
use Rattle.scp_core.proofs.same.Ones.{some_one}

replaces_one : (old : List Boxed) (place : ℕ) (came : Boxed) (a b : List Boxed) (m n : ℕ) → Replaces old place came a m → Replaces old place came b n → (a ≡ b) × (m ≡ n)
replaces_one old place came a b m n x y =
    let held : x.0 ≡ y.0 = some_one x.0 y.0 (sym x.1 ∙ y.1) in
    elim x.2 [
      | inl p ↦ elim y.2 [
        | inl q ↦ (p.1 ∙ sym q.1, p.2 ∙ sym q.2)
        | inr q ↦ absurd (subst (λ (h : Boxed). ¬ (newer h)) (sym held) q.0 p.0)
      ]
      | inr p ↦ elim y.2 [
        | inl q ↦ absurd (subst (λ (h : Boxed). ¬ (newer h)) held p.0 q.0)
        | inr q ↦ (p.1 ∙ sym q.1, p.2 ∙ sym q.2)
      ]
    ]
  where
    newer : Boxed → Type 0
    newer h = IsNewer h.value.statement came.value.statement

takes_one : (old : List Boxed) (came : Boxed) (a b : List Boxed) (m n : ℕ) → Takes old came a m → Takes old came b n → (a ≡ b) × (m ≡ n)
takes_one old came a b m n x y = by_place (position (λ held. are_alike held.value.statement came.value.statement) old) x y
  where
    by_place : (o : Option ℕ) → MatchOption o (GoesLast old came a m) (λ place. Replaces old place came a m) → MatchOption o (GoesLast old came b n) (λ place. Replaces old place came b n) → (a ≡ b) × (m ≡ n)
    by_place None p q = (p.0 ∙ sym q.0, p.1 ∙ sym q.1)
    by_place (Some place) p q = replaces_one old place came a b m n p q

pub puts_one : (old : OutboxView) (message : Message) (a b : OutboxView) → Puts old message a → Puts old message b → a ≡ b
puts_one old (Envelope e) a b x y =
    let same = takes_one old.statements e x.0 y.0 x.1 y.1 x.2 y.2 in
    x.3 ∙ ap (λ (es : List Boxed). record old { statements = es; overwritten = counted old.overwritten x.1 }) same.0 ∙ ap (λ lost. record old { statements = y.0; overwritten = counted old.overwritten lost }) same.1 ∙ sym y.3
puts_one old (GetSet hash) a b x y = x ∙ sym y
puts_one old (Set set) a b x y = x ∙ sym y
puts_one old (NoSet hash) a b x y = x ∙ sym y
puts_one old (GetRecord slot) a b x y = x ∙ sym y
puts_one old (Record slot value) a b x y = x ∙ sym y
puts_one old (Records first values) a b x y = x ∙ sym y

all_one : (old : OutboxView) (messages : List Message) (a b : OutboxView) → PutsAll old messages a → PutsAll old messages b → a ≡ b
all_one old [] a b x y = x ∙ sym y
all_one old (m ∷ messages) a b x y = all_one x.0 messages a b x.3 (subst (λ (o : OutboxView). PutsAll o messages b) (sym (puts_one old m x.0 y.0 x.2 y.2)) y.3)

-- lists as long as a third, and alike at each of its places
places_one : {X Y : Type 0} (os : List Y) (xs ys : List X) → length xs ≡ length os → length ys ≡ length os → ((l : ℕ) (o : Y) → slice_get os l ≡ Some o → slice_get xs l ≡ slice_get ys l) → xs ≡ ys
places_one [] [] [] lx ly h = refl
places_one [] [] (y ∷ ys) lx ly h = absurd (omega (arith, ly))
places_one [] (x ∷ xs) ys lx ly h = absurd (omega (arith, lx))
places_one (o ∷ os) [] ys lx ly h = absurd (omega (arith, lx))
places_one (o ∷ os) (x ∷ xs) [] lx ly h = absurd (omega (arith, ly))
places_one (o ∷ os) (x ∷ xs) (y ∷ ys) lx ly h =
    let head : x ≡ y = some_one x y (h 0 o refl) in
    let tail : xs ≡ ys = places_one os xs ys (omega (arith, lx)) (omega (arith, ly)) (λ l p at. h (suc l) p at) in
    λ i. head i ∷ tail i

pub hands_one : (old : List OutboxView) (handed : ℕ → List Message) (a b : List OutboxView) → HandsOut old handed a → HandsOut old handed b → a ≡ b
hands_one old handed a b x y = places_one old a b x.count y.count (λ l o at. let p = x.puts l o at in let q = y.puts l o at in p.1 ∙ ap Some (all_one o (handed l) p.0 q.0 p.2 q.2) ∙ sym q.1)

-- ---- what is given

message_one : (m n : Message) (a b : OutboxView) → ◌≡◌ {A = Out × OutboxView} (out.Message m, a) (out.Message n, b) → (m ≡ n) × (a ≡ b)
message_one m n a b e = (inside (out.Message m) (out.Message n) m n refl refl (ap (λ (t : Out × OutboxView). t.0) e), ap (λ (t : Out × OutboxView). t.1) e)
  where
    inside : (o p : Out) (m n : Message) → o ≡ out.Message m → p ≡ out.Message n → o ≡ p → m ≡ n
    inside o p m n x y e = cc

nothing_there : (m : Message) (a b : OutboxView) → ◌≡◌ {A = Out × OutboxView} (out.Message m, a) (out.Nothing, b) → ⊥
nothing_there m a b e = differ (ap (λ (t : Out × OutboxView). t.0) e)
  where
    differ : out.Message m ≡ out.Nothing → ⊥
    differ e = cc

pub gives_one : (old : List OutboxView) (l : ℕ) (m n : Message) (a b : List OutboxView) → GivesThere old l (Some m) a → GivesThere old l (Some n) b → (m ≡ n) × (a ≡ b)
gives_one old l m n a b x y =
    let before : x.before ≡ y.before = some_one x.before y.before (sym x.there ∙ y.there) in
    let one = message_one m n x.after' y.after' (x.gives ∙ ap given before ∙ sym y.gives) in
    (one.0, x.is ∙ ap (slice_set old l) one.1 ∙ sym y.is)

-- a link gives something, or nothing
pub gives_apart : (old : List OutboxView) (l : ℕ) (m : Message) (a : List OutboxView) (o : OutboxView) → GivesThere old l (Some m) a → slice_get old l ≡ Some o → GivesNext o None o → ⊥
gives_apart old l m a o x at none = nothing_there m x.after' o (x.gives ∙ ap given (some_one x.before o (sym x.there ∙ at)) ∙ sym none.0)
