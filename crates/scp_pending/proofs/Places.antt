-- The place of a connection's queue.
use Rattle.std.proofs.Common.{◌≡◌, ℕ, ◌+◌, ◌<◌, ◌≤◌, Bool, true, false, cond, not, List, [], ◌∷◌, ◌++◌, length, refl, sym, ◌∙◌, ap, subst, arith, suc, get_or, set}
use Rattle.std.specs.Prelude.{◌||◌, nat_lt, Option, Some, None, IfSome, IfNone, position, remove}
use Rattle.std.specs.List.{position_or_len}
use Rattle.std.proofs.lemmas.Bool.{ltb-true, ltb-false}
use Rattle.scp_wire.specs.scp_types.specs.declared.names.ConnId.{ConnId}
use Rattle.scp_pending.specs.Queues.{QueueView, is_of, is_open, parked_of, others, changed, with_parked, parked_in, is_empty}
use Rattle.scp_pending.specs.declared.parked.Parked.{Parked}
use Rattle.scp_pending.specs.inside.Outcome.{IsPlace}
use Rattle.scp_pending.proofs.Basics.{same_conn-true}

abbrev place : ConnId → List QueueView → ℕ
place c qs = position_or_len (is_of c) qs

here : (c : ConnId) (q : QueueView) (qs : List QueueView) → is_of c q ≡ true → IsPlace c (q ∷ qs) 0
here c q qs k = record {
  within = omega arith;
  open_here = rw k refl;
  parked = λ d. rw k refl;
  mine = λ d. same_conn-true q.conn c k;
  others_are = rw k refl;
  changed_is = λ f d. rw k refl;
}

there : (c : ConnId) (q : QueueView) (qs : List QueueView) (n : ℕ) → is_of c q ≡ false → IsPlace c qs n → IsPlace c (q ∷ qs) (suc n)
there c q qs n k p = record {
  within = omega (arith, p.within);
  open_here = rw k p.open_here;
  parked = λ d. rw k (p.parked d);
  mine = λ d. p.mine d;
  others_are = rw k (ap (λ zs. q ∷ zs) p.others_are);
  changed_is = λ f d. rw k (ap (λ zs. q ∷ zs) (p.changed_is f d));
}

is_place : (c : ConnId) (qs : List QueueView) → place c qs < length qs → IsPlace c qs (place c qs)
is_place c [] h = absurd (omega (arith, h))
is_place c (q ∷ qs) h = by_test (is_of c q) refl h (is_place c qs)
  where
    by_test : (b : Bool) → is_of c q ≡ b → cond (not b) (1 + place c qs) 0 < length (q ∷ qs) → (place c qs < length qs → IsPlace c qs (place c qs)) → IsPlace c (q ∷ qs) (cond (not b) (1 + place c qs) 0)
    by_test true k h rest = here c q qs k
    by_test false k h rest = (let one : suc (place c qs) ≡ 1 + place c qs = omega arith in subst (λ (n : ℕ). IsPlace c (q ∷ qs) n) one (there c q qs (place c qs) k (rest (omega (arith, h)))))

no_place : (c : ConnId) (qs : List QueueView) → length qs ≤ place c qs → is_open c qs ≡ false
no_place c [] h = refl
no_place c (q ∷ qs) h = by_test (is_of c q) h (no_place c qs)
  where
    by_test : (b : Bool) → length (q ∷ qs) ≤ cond (not b) (1 + place c qs) 0 → (length qs ≤ place c qs → is_open c qs ≡ false) → (b || is_open c qs) ≡ false
    by_test true h rest = absurd (omega (arith, h))
    by_test false h rest = rest (omega (arith, h))

pub place_some : (c : ConnId) (qs : List QueueView) (o : Option ℕ) → o ≡ position (is_of c) qs → IfSome o (IsPlace c qs)
place_some c qs o e = rw e (by_test (nat_lt (place c qs) (length qs)) refl)
  where
    by_test : (b : Bool) → nat_lt (place c qs) (length qs) ≡ b → IfSome (cond b (Some (place c qs)) None) (IsPlace c qs)
    by_test true k = is_place c qs (ltb-true (place c qs) (length qs) k)
    by_test false k = tt

pub place_none : (c : ConnId) (qs : List QueueView) (o : Option ℕ) → o ≡ position (is_of c) qs → IfNone o (is_open c qs ≡ false)
place_none c qs o e = rw e (by_test (nat_lt (place c qs) (length qs)) refl)
  where
    by_test : (b : Bool) → nat_lt (place c qs) (length qs) ≡ b → IfNone (cond b (Some (place c qs)) None) (is_open c qs ≡ false)
    by_test true k = tt
    by_test false k = no_place c qs (ltb-false (place c qs) (length qs) k)

-- ---- a message is parked at a place

some_not_empty : (ps : List Parked) → 0 < length ps → is_empty ps ≡ false
some_not_empty [] h = absurd (omega (arith, h))
some_not_empty (p ∷ ps) h = refl

none_is_nil : (ps : List Parked) → length ps ≤ 0 → ps ≡ []
none_is_nil [] h = refl
none_is_nil (p ∷ ps) h = absurd (omega (arith, h))

pub park_behind : (c : ConnId) (p : Parked) (ds qs : List QueueView) (n : ℕ) (i q new : QueueView) → ds ≡ qs → IsPlace c ds n → i ≡ get_or qs n i → 0 < length i.parked → q ≡ get_or qs n q → new ≡ with_parked p q → set qs n new ≡ parked_in c p qs
park_behind c p ds qs n i q new same at e some f is =
    let here : IsPlace c qs n = subst (λ (zs : List QueueView). IsPlace c zs n) same at in
    let ps : parked_of c qs ≡ i.parked = here.parked i ∙ ap (λ (r : QueueView). r.parked) (sym e) in
    let full : is_empty (parked_of c qs) ≡ false = ap is_empty ps ∙ some_not_empty i.parked some in
    ap (set qs n) (is ∙ ap (with_parked p) f) ∙ sym (here.changed_is (with_parked p) q) ∙ ap (λ b. cond b (others c qs ++ record { conn = c; parked = p ∷ [] } ∷ []) (changed c (with_parked p) qs)) (sym full)

pub park_first : (c : ConnId) (p : Parked) (ds qs : List QueueView) (n : ℕ) (i q new : QueueView) (rest all : List QueueView) → ds ≡ qs → IsPlace c ds n → i ≡ get_or qs n i → length i.parked ≤ 0 → q ≡ get_or qs n q → new ≡ with_parked p q → rest ≡ remove qs n → all ≡ rest ++ new ∷ [] → all ≡ parked_in c p qs
park_first c p ds qs n i q new rest all same at e few f is gone made =
    let here : IsPlace c qs n = subst (λ (zs : List QueueView). IsPlace c zs n) same at in
    let ps : parked_of c qs ≡ [] = here.parked i ∙ ap (λ (r : QueueView). r.parked) (sym e) ∙ none_is_nil i.parked few in
    let own : q.parked ≡ [] = ap (λ (r : QueueView). r.parked) f ∙ sym (here.parked q) ∙ ps in
    let mine : q.conn ≡ c = ap (λ (r : QueueView). r.conn) f ∙ here.mine q in
    let view : ConnId → List Parked → QueueView = λ k zs. record { conn = k; parked = zs } in
    let it : new ≡ record { conn = c; parked = p ∷ [] } = is ∙ ap (λ k. view k (q.parked ++ p ∷ [])) mine ∙ ap (λ zs. view c (zs ++ p ∷ [])) own in
    made ∙ ap (λ zs. zs ++ new ∷ []) (gone ∙ sym here.others_are) ∙ ap (λ r. others c qs ++ r ∷ []) it ∙ ap (λ b. cond b (others c qs ++ record { conn = c; parked = p ∷ [] } ∷ []) (changed c (with_parked p) qs)) (sym (ap is_empty ps))
