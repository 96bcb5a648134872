-- Lists that grow, and tests.
use Rattle.std.proofs.Common.{◌≡◌, ◌≢◌, ℕ, ◌<◌, Bool, true, false, List, [], ◌∷◌, ◌++◌, refl, sym, ◌∙◌, ap, subst, arith, append-nil, length, zero, suc, inl, inr, ◌⊎◌, take}
use Rattle.std.specs.Prelude.{Option, Some, None, IsSome, Any, Contains, slice_get, slice_set, slice_index_or, ◌&&◌}
use Rattle.std.specs.BTreeMap as tree
use Rattle.std.specs.Cmp.{unsigned_tied}
use Rattle.std.specs.Ordering.{nat_cmp}
use Rattle.std.proofs.lemmas.Bool.{eqb-true}
use Rattle.std.proofs.lemmas.List.{get_or_append_left, length-append}
use Rattle.std.proofs.lemmas.Option.{get_or_from_slice_get}

-- the new list is the old one, and maybe more
pub record IsMore {X : Type 0} (old new : List X) : Type 0 where
  pub more : List X
  pub is : new ≡ old ++ more

pub no_more : {X : Type 0} (old new : List X) → new ≡ old → IsMore old new
no_more old new e = record { more = []; is = e ∙ sym (append-nil old) }

pub more_of : {X : Type 0} (old new more : List X) → new ≡ old ++ more → IsMore old new
more_of old new more e = record { more = more; is = e }

any_front : {X : Type 0} (P : X → Type 0) (xs ys : List X) → Any P xs → Any P (xs ++ ys)
any_front P xs ys h = (let long = length-append xs ys in let below = h.2 in (h.0, h.1, omega (arith, below, long), get_or_append_left xs ys h.1 h.0 h.2 ∙ h.3, h.4))

pub any_more : {X : Type 0} (P : X → Type 0) (old new : List X) → IsMore old new → Any P old → Any P new
any_more P old new m h = subst (Any P) (sym m.is) (any_front P old m.more h)

pub any_here : {X : Type 0} (P : X → Type 0) (x : X) (xs : List X) → P x → Any P (x ∷ xs)
any_here P x xs p = (0, x, omega arith, refl, p)

pub any_later : {X : Type 0} (P : X → Type 0) (x : X) (xs : List X) → Any P xs → Any P (x ∷ xs)
any_later P x xs h = (let below = h.2 in (suc h.0, h.1, omega (arith, below), h.3, h.4))

pub contains_more : {X : Type 0} (old new : List X) (x : X) → IsMore old new → Contains old x → Contains new x
contains_more {X = X} old new x m h = subst (λ (xs : List X). Contains xs x) (sym m.is) (let long = length-append old m.more in let below = h.1 in (h.0, omega (arith, below, long), get_or_append_left old m.more x h.0 h.1 ∙ h.2))

pub some_same : {X : Type 0} (o : Option X) (x y : X) → o ≡ Some x → o ≡ Some y → x ≡ y
some_same {X = X} o x y e f = some_is x y (sym e ∙ f)
  where
    some_is : (a b : X) → Some a ≡ Some b → a ≡ b
    some_is a b k = cc

pub none_some : {X : Type 0} {A : Type 0} (o : Option X) (x : X) → o ≡ None → o ≡ Some x → A
none_some {X = X} o x e f = absurd (isnt x (sym e ∙ f))
  where
    isnt : (a : X) → None ≡ Some a → ⊥
    isnt a k = cc

pub there_some : {X : Type 0} (o : Option X) (x : X) → o ≡ Some x → IsSome o
there_some o x e = subst IsSome (sym e) refl

pub some_there : {X : Type 0} (o : Option X) → IsSome o → (x : X) × (o ≡ Some x)
some_there None h = absurd (clash h)
  where
    clash : false ≡ true → ⊥
    clash e = cc
some_there (Some x) h = (x, refl)

pub true_isnt : true ≡ false → ⊥
true_isnt e = cc

pub which : (b : Bool) → (b ≡ true) ⊎ (b ≡ false)
which true = inl refl
which false = inr refl

pub and_first : (a b : Bool) → (a && b) ≡ true → a ≡ true
and_first true b e = refl
and_first false b e = absurd (true_isnt (sym e))

pub and_second : (a b : Bool) → (a && b) ≡ true → b ≡ true
and_second true b e = e
and_second false b e = absurd (true_isnt (sym e))

pub peer_is : {X : Type 0} (peers : List X) (l : ℕ) (me peer : X) → slice_get peers l ≡ Some peer → slice_index_or peers l me ≡ peer
peer_is peers l me peer e = get_or_from_slice_get peers l peer me e

pub there_is : {X : Type 0} (xs : List X) (l : ℕ) → l < length xs → (x : X) × (slice_get xs l ≡ Some x)
there_is [] l lt = absurd (omega (arith, lt))
there_is (x ∷ xs) zero lt = (x, refl)
there_is (x ∷ xs) (suc l) lt = there_is xs l (omega (arith, lt))

-- what was written at a place is there, if the place is in the list, and the others are as they were
pub set_there : {X : Type 0} (xs : List X) (l : ℕ) (x y : X) → slice_get xs l ≡ Some x → slice_get (slice_set xs l y) l ≡ Some y
set_there [] l x y e = absurd cc
set_there (z ∷ zs) zero x y e = refl
set_there (z ∷ zs) (suc l) x y e = set_there zs l x y e

pub set_else : {X : Type 0} (xs : List X) (l m : ℕ) (y : X) → m ≢ l → slice_get (slice_set xs l y) m ≡ slice_get xs m
set_else [] l m y ne = refl
set_else (z ∷ zs) zero zero y ne = absurd (ne refl)
set_else (z ∷ zs) zero (suc m) y ne = refl
set_else (z ∷ zs) (suc l) zero y ne = refl
set_else (z ∷ zs) (suc l) (suc m) y ne = set_else zs l m y (λ e. ne (ap suc e))

pub take_front : {X : Type 0} (xs ys : List X) → take (length xs) (xs ++ ys) ≡ xs
take_front [] ys = refl
take_front (x ∷ xs) ys = ap (λ zs. x ∷ zs) (take_front xs ys)

-- two keys of a map that are the same
pub at_is : (a b : ℕ) → tree.is_at (nat_cmp a) b ≡ true → a ≡ b
at_is a b e = eqb-true a b (sym (unsigned_tied a b) ∙ e)
