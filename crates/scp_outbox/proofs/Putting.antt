-- A put at one link is all that is handed out.
use Rattle.std.proofs.Common.{◌≡◌, ◌≢◌, ◌<◌, ◌≤◌, ◌+◌, ◌⊎◌, ℕ, length, arith, Bool, true, false, List, [], ◌∷◌, ◌++◌, refl, sym, ◌∙◌, ap, subst, nat_eq, inl, inr, zero, suc}
use Rattle.std.specs.Prelude.{Some, None, slice_get, slice_set, if◌then◌else◌, replicate}
use Rattle.std.proofs.lemmas.Bool.{eqb-true, eqb-false}
use Rattle.std.proofs.lemmas.List.{length-set}
use Rattle.scp_wire.specs.declared.message.Message.{Message}
use Rattle.scp_outbox.specs.Outbox.{OutboxView, Puts}
use Rattle.scp_wire.specs.Fitting.{IsFitting}
use Rattle.scp_outbox.specs.Handing.{PutsAll, HandsOut, to_link, to_each}
use Rattle.scp_outbox.specs.inside.Putting.{PutsAt}
use Rattle.scp_outbox.specs.Sending.{NothingChangesNothing, TurnsAddUp}

set_at : {X : Type 0} (xs : List X) (l : ℕ) (x y : X) → slice_get xs l ≡ Some x → slice_get (slice_set xs l y) l ≡ Some y
set_at [] l x y e = absurd cc
set_at (z ∷ zs) zero x y e = refl
set_at (z ∷ zs) (suc l) x y e = set_at zs l x y e

set_other : {X : Type 0} (xs : List X) (l m : ℕ) (y : X) → m ≢ l → slice_get (slice_set xs l y) m ≡ slice_get xs m
set_other [] l m y ne = refl
set_other (z ∷ zs) zero zero y ne = absurd (ne refl)
set_other (z ∷ zs) zero (suc m) y ne = refl
set_other (z ∷ zs) (suc l) zero y ne = refl
set_other (z ∷ zs) (suc l) (suc m) y ne = set_other zs l m y (λ e. ne (ap suc e))

same_some : {X : Type 0} (a b : X) → Some a ≡ Some b → a ≡ b
same_some a b e = cc

pub nothing_out : (old : List OutboxView) (handed : ℕ → List Message) → ((l : ℕ) → (o : OutboxView) → slice_get old l ≡ Some o → handed l ≡ []) → HandsOut old handed old
nothing_out old handed none = record { count = refl; puts = λ l o there. (o, there, subst (λ (ms : List Message). PutsAll o ms o) (sym (none l o there)) refl) }

none_there : (link l : ℕ) (m : Message) (old : List OutboxView) (o : OutboxView) (b : Bool) → nat_eq l link ≡ b → slice_get old link ≡ None → slice_get old l ≡ Some o → (if b then m ∷ [] else []) ≡ []
none_there link l m old o true e none there = absurd (isnt o (sym there ∙ ap (slice_get old) (eqb-true l link e) ∙ none))
  where
    isnt : (o : OutboxView) → Some o ≡ None → ⊥
    isnt o e = cc
none_there link l m old o false e none there = refl

pub put_out : (old : List OutboxView) (link : ℕ) (m : Message) (new : List OutboxView) → IsFitting m → PutsAt old link m new → HandsOut old (to_link link m) new
put_out old link m new fits puts = elim puts [
  | inl w ↦ subst (HandsOut old (to_link link m)) (sym w.1) (nothing_out old (to_link link m) (λ l o there. none_there link l m old o (nat_eq l link) refl w.0 there))
  | inr w ↦ changed w.before w.after' w.there w.puts w.is
]
  where
    changed : (before after' : OutboxView) → slice_get old link ≡ Some before → Puts before m after' → new ≡ slice_set old link after' → HandsOut old (to_link link m) new
    changed before after' at puts is = subst (HandsOut old (to_link link m)) (sym is) (record {
      count = length-set old link after';
      puts = λ l o there. by_test l o there (nat_eq l link) refl;
    })
      where
        by_test : (l : ℕ) (o : OutboxView) → slice_get old l ≡ Some o → (b : Bool) → nat_eq l link ≡ b → (p : OutboxView) × (slice_get (slice_set old link after') l ≡ Some p) × PutsAll o (if b then m ∷ [] else []) p
        by_test l o there true e =
            let same : l ≡ link = eqb-true l link e in
            (after', ap (slice_get (slice_set old link after')) same ∙ set_at old link before after' at, (after', fits, subst (λ (q : OutboxView). Puts q m after') (same_some before o (sym at ∙ ap (slice_get old) (sym same) ∙ there)) puts, refl))
        by_test l o there false e = (o, set_other old link l after' (eqb-false l link e) ∙ there, refl)

pub replicate-push : {X : Type 0} (n : ℕ) (x : X) → replicate n x ++ x ∷ [] ≡ replicate (suc n) x
replicate-push zero x = refl
replicate-push (suc n) x = ap (λ xs. x ∷ xs) (replicate-push n x)

puts_after : (old between new : OutboxView) (first second : List Message) → PutsAll old first between → PutsAll between second new → PutsAll old (first ++ second) new
puts_after old between new [] second p q = subst (λ (o : OutboxView). PutsAll o second new) p q
puts_after old between new (m ∷ first) second p q = (p.0, p.1, p.2, puts_after p.0 between new first second p.3 q)

pub nothing_changes : NothingChangesNothing
nothing_changes = λ outboxes. nothing_out outboxes (λ link. []) (λ l o there. refl)

pub turns_add_up : TurnsAddUp
turns_add_up = λ first second old between new p q. record {
  count = q.count ∙ p.count;
  puts = λ link before there. (
      let one = p.puts link before there in
      let two = q.puts link one.0 one.1 in
      (two.0, two.1, puts_after before one.0 two.0 (first link) (second link) one.2 two.2)
      );
}

-- a message was put into the outboxes below i, and the others are as they were
pub record PutBelow (old : List OutboxView) (message : Message) (i : ℕ) (now : List OutboxView) : Type 0 where
  pub count : length now ≡ length old
  pub below : (l : ℕ) → (before : OutboxView) → l < i → slice_get old l ≡ Some before → (after' : OutboxView) × (slice_get now l ≡ Some after') × Puts before message after'
  pub left : (l : ℕ) → i ≤ l → slice_get now l ≡ slice_get old l

pub none_put : (old : List OutboxView) (m : Message) → PutBelow old m 0 old
none_put old m = record { count = refl; below = λ l before lt there. absurd (omega (arith, lt)); left = λ l le. refl }

under : (l i : ℕ) → l < i + 1 → (l < i) ⊎ (l ≡ i)
under zero zero lt = inr refl
under zero (suc i) lt = inl (omega arith)
under (suc l) zero lt = absurd (omega (arith, lt))
under (suc l) (suc i) lt = elim (under l i (omega (arith, lt))) [ inl h ↦ inl (omega (arith, h)) | inr e ↦ inr (ap suc e) ]

pub one_more : (old : List OutboxView) (m : Message) (i : ℕ) (now : List OutboxView) (before after' : OutboxView) → slice_get now i ≡ Some before → Puts before m after' → PutBelow old m i now → PutBelow old m (i + 1) (slice_set now i after')
one_more old m i now before after' at puts h = record {
  count = length-set now i after' ∙ h.count;
  below = λ l o lt there. elim (under l i lt) [
    | inl less ↦ (
        let b = h.below l o less there in
        (b.0, set_other now i l after' (λ e. absurd (omega (arith, less, e))) ∙ b.1, b.2)
        )
    | inr e ↦ (
        let same : before ≡ o = same_some before o (sym at ∙ h.left i (omega arith) ∙ ap (slice_get old) (sym e) ∙ there) in
        (after', ap (slice_get (slice_set now i after')) e ∙ set_at now i before after' at, subst (λ (q : OutboxView). Puts q m after') same puts)
        )
  ];
  left = λ l le. set_other now i l after' (λ e. absurd (omega (arith, le, e))) ∙ h.left l (omega (arith, le));
}

within : {X : Type 0} (xs : List X) (l : ℕ) (x : X) → slice_get xs l ≡ Some x → l < length xs
within [] l x e = absurd cc
within (y ∷ ys) zero x e = omega arith
within (y ∷ ys) (suc l) x e = let h = within ys l x e in omega (arith, h)

pub all_put : (old : List OutboxView) (m : Message) (i : ℕ) (now : List OutboxView) → IsFitting m → length old ≤ i → PutBelow old m i now → HandsOut old (to_each m) now
all_put old m i now fits ended h = record {
  count = h.count;
  puts = λ l o there. (
      let lt = within old l o there in
      let b = h.below l o (omega (arith, lt, ended)) there in
      (b.0, b.1, (b.0, fits, b.2, refl))
      );
}
