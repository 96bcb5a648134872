-- What is put into the outboxes of the links.
use Rattle.std.proofs.Common.{◌≡◌, ◌≢◌, ◌<◌, ◌≤◌, ◌+◌, ◌⊎◌, ℕ, zero, suc, length, get_or, take, drop, arith, Bool, true, false, List, [], ◌∷◌, ◌++◌, refl, sym, ◌∙◌, ap, subst, nat_eq, inl, inr, append-nil, append_assoc}
use Rattle.std.specs.Prelude.{Some, None, slice_get, slice_set, if◌then◌else◌}
use Rattle.std.proofs.lemmas.Bool.{eqb-true, eqb-false}
use Rattle.std.proofs.lemmas.List.{length-set, take_all, drop_all}
use Rattle.std.proofs.lemmas.Option.{slice_get_within, slice_get-get_or}
use Rattle.std.proofs.lemmas.Grind.{flat_map-append}
use native.Mathlib.Decide.{ℕ_discrete, dec_lt}
use Rattle.scp_theorem.specs.scp_wire.specs.declared.message.Message.{Message}
use Rattle.scp_shared_outbox.specs.Ends.{PutterView}
use Rattle.scp_theorem.specs.scp_ledger.specs.declared.took.Outgoing.{Outgoing}
use Rattle.scp_theorem.specs.scp_ledger.specs.declared.took.Outgoing.TheVariants.{To}
use Rattle.scp_theorem.specs.Handed.{handed_by, messages_for}
use Rattle.scp_workers.specs.Working.{AreSameOutlets, AreUnused, HavePut}
use Rattle.scp_workers.specs.inside.Handing.{PutsOut, PutsAt}

-- ---- places in lists

set_at : {X : Type 0} (xs : List X) (l : ℕ) (x y : X) → slice_get xs l ≡ Some x → slice_get (slice_set xs l y) l ≡ Some y
set_at [] l x y e = absurd cc
set_at (z ∷ zs) zero x y e = refl
set_at (z ∷ zs) (suc l) x y e = set_at zs l x y e

set_other : {X : Type 0} (xs : List X) (l m : ℕ) (y : X) → m ≢ l → slice_get (slice_set xs l y) m ≡ slice_get xs m
set_other [] l m y ne = refl
set_other (z ∷ zs) zero zero y ne = absurd (ne refl)
set_other (z ∷ zs) zero (suc m) y ne = refl
set_other (z ∷ zs) (suc l) zero y ne = refl
set_other (z ∷ zs) (suc l) (suc m) y ne = set_other zs l m y (λ e. ne (ap suc e))

some_is : {X : Type 0} (a b : X) → Some a ≡ Some b → a ≡ b
some_is a b e = cc

-- what is at a place of one list has something at that place of another list that is as long
there : {X : Type 0} (xs ys : List X) (l : ℕ) (y : X) → length ys ≡ length xs → slice_get ys l ≡ Some y → (x : X) × (slice_get xs l ≡ Some x)
there xs ys l y e at = let lt = slice_get_within ys l y at in (get_or xs l y, slice_get-get_or xs l y (omega (arith, lt, e)))

-- a list that was lent and is put back whole
pub put_back : {X : Type 0} (old xs ys : List X) (n : ℕ) → length xs ≡ length old → n ≡ length old → ys ≡ xs → take n (ys ++ drop (length ys) old) ≡ xs
put_back old xs ys n same full e =
    let longs : length ys ≡ length old = ap length e ∙ same in
    ap (λ t. take n (ys ++ t)) (drop_all (length ys) old (omega arith)) ∙ ap (take n) (append-nil ys) ∙ take_all n ys (omega arith) ∙ e

-- ---- the same ends

pub same_itself : (ps : List PutterView) → AreSameOutlets ps ps
same_itself ps = record {
  many = refl;
  each = λ l p q at here. (let e : q ≡ p = some_is q p (sym here ∙ at) in (ap (λ (r : PutterView). r.desk) e, ap (λ (r : PutterView). r.number) e));
}

pub same_on : (old between new : List PutterView) → AreSameOutlets old between → AreSameOutlets between new → AreSameOutlets old new
same_on old between new s t = record {
  many = t.many ∙ s.many;
  each = λ l p q at here. (
      let m = there between old l p (sym s.many) at in
      let one = s.each l p m.0 at m.1 in
      let two = t.each l m.0 q m.1 here in
      (two.0 ∙ one.0, two.1 ∙ one.1)
      );
}

-- ---- what was put

pub nothing_out : (ps : List PutterView) → PutsOut [] ps ps
nothing_out ps = λ l p q at here. ap (λ (r : PutterView). r.put) (some_is q p (sym here ∙ at)) ∙ sym (append-nil p.put)

handed_more : (first second : List Outgoing) (l : ℕ) → handed_by (first ++ second) l ≡ handed_by first l ++ handed_by second l
handed_more first second l = flat_map-append (messages_for l) first second

pub puts_on : (first second : List Outgoing) (old between new : List PutterView) → AreSameOutlets old between → PutsOut first old between → PutsOut second between new → PutsOut (first ++ second) old new
puts_on first second old between new s puts more = λ l p q at here. (
    let m = there between old l p (sym s.many) at in
    more l m.0 q m.1 here ∙ ap (λ (ms : List Message). ms ++ handed_by second l) (puts l p m.0 at m.1) ∙ append_assoc p.put (handed_by first l) (handed_by second l)
    ∙ ap (λ (ms : List Message). p.put ++ ms) (sym (handed_more first second l))
    )

pub have_none : (ps : List PutterView) → AreUnused ps → HavePut [] ps
have_none ps none = none

pub have_more : (out more : List Outgoing) (old new : List PutterView) → AreSameOutlets old new → PutsOut more old new → HavePut out old → HavePut (out ++ more) new
have_more out more old new s puts have = λ l q here. (
    let p = there old new l q s.many here in
    puts l p.0 q p.1 here ∙ ap (λ (ms : List Message). ms ++ handed_by more l) (have l p.0 p.1) ∙ sym (handed_more out more l)
    )

-- ---- one message, for one link

pub at_same : (old : List PutterView) (link : ℕ) (m : Message) (new : List PutterView) → PutsAt old link m new → AreSameOutlets old new
at_same old link m new puts = elim puts [
  | inl w ↦ subst (AreSameOutlets old) (sym w.1) (same_itself old)
  | inr w ↦ subst (AreSameOutlets old) (sym w.is) (record {
    many = length-set old link (record w.before { put = w.before.put ++ m ∷ [] });
    each = λ l p q at here. by_place w.before w.there l p q at here (ℕ_discrete l link);
  })
]
  where
    by_place : (before : PutterView) → slice_get old link ≡ Some before → (l : ℕ) (p q : PutterView) → slice_get old l ≡ Some p → slice_get (slice_set old link (record before { put = before.put ++ m ∷ [] })) l ≡ Some q → Dec (l ≡ link) → (q.desk ≡ p.desk) × (q.number ≡ p.number)
    by_place before known l p q at here (yes e) =
        let after' : PutterView = record before { put = before.put ++ m ∷ [] } in
        let is : q ≡ after' = some_is q after' (sym here ∙ ap (slice_get (slice_set old link after')) e ∙ set_at old link before after' known) in
        let was : before ≡ p = some_is before p (sym known ∙ ap (slice_get old) (sym e) ∙ at) in
        (ap (λ (r : PutterView). r.desk) is ∙ ap (λ (r : PutterView). r.desk) was, ap (λ (r : PutterView). r.number) is ∙ ap (λ (r : PutterView). r.number) was)
    by_place before known l p q at here (no ne) =
        let after' : PutterView = record before { put = before.put ++ m ∷ [] } in
        let is : q ≡ p = some_is q p (sym here ∙ set_other old link l after' ne ∙ at) in
        (ap (λ (r : PutterView). r.desk) is, ap (λ (r : PutterView). r.number) is)

none_is : {X : Type 0} (x : X) → None ≡ Some x → ⊥
none_is x e = cc

pub at_puts : (old : List PutterView) (link : ℕ) (m : Message) (new : List PutterView) → PutsAt old link m new → PutsOut (To link m ∷ []) old new
at_puts old link m new puts = elim puts [
  | inl w ↦ subst (PutsOut (To link m ∷ []) old) (sym w.1) (λ l p q at here. nowhere w.0 l p q at here (nat_eq l link) refl)
  | inr w ↦ subst (PutsOut (To link m ∷ []) old) (sym w.is) (λ l p q at here. by_test w.before w.there l p q at here (nat_eq l link) refl)
]
  where
    nowhere : slice_get old link ≡ None → (l : ℕ) (p q : PutterView) → slice_get old l ≡ Some p → slice_get old l ≡ Some q → (b : Bool) → nat_eq l link ≡ b → q.put ≡ p.put ++ ((if b then m ∷ [] else []) ++ [])
    nowhere none l p q at here true e = absurd (none_is p (sym none ∙ ap (slice_get old) (sym (eqb-true l link e)) ∙ at))
    nowhere none l p q at here false e = ap (λ (r : PutterView). r.put) (some_is q p (sym here ∙ at)) ∙ sym (append-nil p.put)

    by_test : (before : PutterView) → slice_get old link ≡ Some before → (l : ℕ) (p q : PutterView) → slice_get old l ≡ Some p → slice_get (slice_set old link (record before { put = before.put ++ m ∷ [] })) l ≡ Some q
        → (b : Bool) → nat_eq l link ≡ b → q.put ≡ p.put ++ ((if b then m ∷ [] else []) ++ [])
    by_test before known l p q at here true e =
        let after' : PutterView = record before { put = before.put ++ m ∷ [] } in
        let same : l ≡ link = eqb-true l link e in
        let is : q ≡ after' = some_is q after' (sym here ∙ ap (slice_get (slice_set old link after')) same ∙ set_at old link before after' known) in
        let was : before ≡ p = some_is before p (sym known ∙ ap (slice_get old) (sym same) ∙ at) in
        ap (λ (r : PutterView). r.put) is ∙ ap (λ (r : PutterView). r.put ++ m ∷ []) was
    by_test before known l p q at here false e =
        let after' : PutterView = record before { put = before.put ++ m ∷ [] } in
        ap (λ (r : PutterView). r.put) (some_is q p (sym here ∙ set_other old link l after' (eqb-false l link e) ∙ at)) ∙ sym (append-nil p.put)

-- ---- one message, for each link

-- a message was put into the outboxes of the links below i, and the others are as they were
pub record PutBelow (old : List PutterView) (m : Message) (i : ℕ) (now : List PutterView) : Type 0 where
  pub many : length now ≡ length old
  pub below : (l : ℕ) (p : PutterView) → l < i → slice_get old l ≡ Some p → slice_get now l ≡ Some (record p { put = p.put ++ m ∷ [] })
  pub left : (l : ℕ) → i ≤ l → slice_get now l ≡ slice_get old l

pub none_put : (old : List PutterView) (m : Message) → PutBelow old m 0 old
none_put old m = record { many = refl; below = λ l p lt at. absurd (omega (arith, lt)); left = λ l le. refl }

under : (l i : ℕ) → l < i + 1 → (l < i) ⊎ (l ≡ i)
under zero zero lt = inr refl
under zero (suc i) lt = inl (omega arith)
under (suc l) zero lt = absurd (omega (arith, lt))
under (suc l) (suc i) lt = elim (under l i (omega (arith, lt))) [ inl h ↦ inl (omega (arith, h)) | inr e ↦ inr (ap suc e) ]

pub one_put : (old : List PutterView) (m : Message) (i : ℕ) (now : List PutterView) (before after' : PutterView) → slice_get now i ≡ Some before → after' ≡ record before { put = before.put ++ m ∷ [] } → PutBelow old m i now → PutBelow old m (i + 1) (slice_set now i after')
one_put old m i now before after' known puts h = record {
  many = length-set now i after' ∙ h.many;
  below = λ l p lt at. elim (under l i lt) [
    | inl less ↦ set_other now i l after' (λ e. absurd (omega (arith, less, e))) ∙ h.below l p less at
    | inr e ↦ (
        let was : before ≡ p = some_is before p (sym known ∙ h.left i (omega arith) ∙ ap (slice_get old) (sym e) ∙ at) in
        ap (slice_get (slice_set now i after')) e ∙ set_at now i before after' known ∙ ap (λ (r : PutterView). Some r) (puts ∙ ap (λ (r : PutterView). record r { put = r.put ++ m ∷ [] }) was)
        )
  ];
  left = λ l le. set_other now i l after' (λ e. absurd (omega (arith, le, e))) ∙ h.left l (omega (arith, le));
}

pub below_same : (old : List PutterView) (m : Message) (i : ℕ) (now : List PutterView) → PutBelow old m i now → AreSameOutlets old now
below_same old m i now h = record {
  many = h.many;
  each = λ l p q at here. by_place l p q at here (dec_lt l i);
}
  where
    by_place : (l : ℕ) (p q : PutterView) → slice_get old l ≡ Some p → slice_get now l ≡ Some q → Dec (l < i) → (q.desk ≡ p.desk) × (q.number ≡ p.number)
    by_place l p q at here (yes lt) =
        let is : q ≡ record p { put = p.put ++ m ∷ [] } = some_is q (record p { put = p.put ++ m ∷ [] }) (sym here ∙ h.below l p lt at) in
        (ap (λ (r : PutterView). r.desk) is, ap (λ (r : PutterView). r.number) is)
    by_place l p q at here (no ge) =
        let is : q ≡ p = some_is q p (sym here ∙ h.left l (omega (arith, ge)) ∙ at) in
        (ap (λ (r : PutterView). r.desk) is, ap (λ (r : PutterView). r.number) is)

-- an own statement, once it was put for each
pub all_put : (old : List PutterView) (m : Message) (i : ℕ) (now : List PutterView) → length old ≤ i → PutBelow old m i now → (l : ℕ) (p q : PutterView) → slice_get old l ≡ Some p → slice_get now l ≡ Some q → q.put ≡ p.put ++ m ∷ []
all_put old m i now ended h l p q at here =
    let lt = slice_get_within old l p at in
    ap (λ (r : PutterView). r.put) (some_is q (record p { put = p.put ++ m ∷ [] }) (sym here ∙ h.below l p (omega (arith, lt, ended)) at))
