-- Queues, hands and lists of links.
use Rattle.std.proofs.Common.{◌≡◌, ◌≢◌, ℕ, ◌<◌, ◌≤◌, Bool, true, false, List, [], ◌∷◌, ◌++◌, refl, sym, ◌∙◌, ap, nat_eq, arith, append_assoc, length, zero, suc, take, drop, inl, inr, ◌⊎◌}
use Rattle.std.specs.Prelude.{Option, Some, None, slice_get, slice_set, option_to_list, replicate, if◌then◌else◌}
use Rattle.std.proofs.lemmas.List.{append-nil}
use Rattle.std.proofs.lemmas.Bool.{eqb-true, eqb-false}
use Rattle.std.proofs.lemmas.Option.{slice_get_within}
use Rattle.scp_core.specs.Flow.{IsOnWay}
use Rattle.scp_core.specs.History.{OnLink, changed}

-- ---- on the way from a stage to the next

pub way-fill : {X : Type 0} (gone taken queue : List X) (before hand : Option X) → before ≡ None → IsOnWay gone taken queue before → IsOnWay (gone ++ option_to_list hand) taken queue hand
way-fill gone taken queue before hand none w = ap (λ xs. xs ++ option_to_list hand) (w ∙ ap (λ o. taken ++ (queue ++ option_to_list o)) none ∙ ap (λ xs. taken ++ xs) (append-nil queue)) ∙ append_assoc taken queue (option_to_list hand)

pub way-put : {X : Type 0} (gone taken queue : List X) (hand : Option X) (x : X) → hand ≡ Some x → IsOnWay gone taken queue hand → IsOnWay gone taken (queue ++ x ∷ []) None
way-put gone taken queue hand x some w = w ∙ ap (λ o. taken ++ (queue ++ option_to_list o)) some ∙ ap (λ xs. taken ++ xs) (sym (append-nil (queue ++ x ∷ [])))

pub way-take : {X : Type 0} (gone taken queue rest : List X) (hand : Option X) (x : X) → queue ≡ x ∷ rest → IsOnWay gone taken queue hand → IsOnWay gone (taken ++ x ∷ []) rest hand
way-take gone taken queue rest hand x q w = w ∙ ap (λ xs. taken ++ (xs ++ option_to_list hand)) q ∙ sym (append_assoc taken (x ∷ []) (rest ++ option_to_list hand))

-- ---- lists that are cut

pub drop-next : {X : Type 0} (xs : List X) (n : ℕ) (x : X) (rest : List X) → drop n xs ≡ x ∷ rest → (take (suc n) xs ≡ take n xs ++ x ∷ []) × (drop (suc n) xs ≡ rest) × (suc n ≤ length xs)
drop-next [] zero x rest e = cc
drop-next [] (suc n) x rest e = cc
drop-next (y ∷ ys) zero x rest e = (cc, cc, omega arith)
drop-next (y ∷ ys) (suc n) x rest e = let h = drop-next ys n x rest e in (ap (λ zs. y ∷ zs) h.0, h.1, omega (arith, h.2))

-- ---- one link of many

pub get_set : {X : Type 0} (xs : List X) (l : ℕ) (y : X) (m : ℕ) (z : X) → slice_get (slice_set xs l y) m ≡ Some z → ((m ≡ l) × (y ≡ z)) ⊎ ((m ≢ l) × (slice_get xs m ≡ Some z))
get_set [] l y m z e = absurd cc
get_set (x ∷ xs) zero y zero z e = inl (refl, cc)
get_set (x ∷ xs) zero y (suc m) z e = inr (λ s. absurd (omega (arith, s)), e)
get_set (x ∷ xs) (suc l) y zero z e = inr (λ s. absurd (omega (arith, s)), e)
get_set (x ∷ xs) (suc l) y (suc m) z e = elim (get_set xs l y m z e) [ inl h ↦ inl (ap suc h.0, h.1) | inr h ↦ inr (λ s. h.0 (omega (arith, s)), h.1) ]

pub in_replicate : {X : Type 0} (n : ℕ) (x : X) (l : ℕ) (y : X) → slice_get (replicate n x) l ≡ Some y → y ≡ x
in_replicate zero x l y e = absurd cc
in_replicate (suc n) x zero y e = cc
in_replicate (suc n) x (suc l) y e = in_replicate n x l y e

-- of a link that changed, and of the others
pub at_changed : (Q : OnLink → Type 0) (links : ℕ → OnLink) (l : ℕ) (o : OnLink) (m : ℕ) → (m ≡ l → Q o) → (m ≢ l → Q (links m)) → Q (changed links l o m)
at_changed Q links l o m same other = by_test (nat_eq m l) refl
  where
    by_test : (b : Bool) → nat_eq m l ≡ b → Q (if b then o else links m)
    by_test true e = same (eqb-true m l e)
    by_test false e = other (eqb-false m l e)

pub some_len : {X : Type 0} (o : Option X) (x : X) → o ≡ Some x → length (option_to_list o) ≡ 1
some_len o x e = ap (λ p. length (option_to_list p)) e

pub within : {X : Type 0} (xs : List X) (l : ℕ) (x : X) → slice_get xs l ≡ Some x → l < length xs
within xs l x e = slice_get_within xs l x e
