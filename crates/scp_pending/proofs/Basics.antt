-- Lists, tests, names.
use Rattle.std.proofs.Common.{◌≡◌, ℕ, Bool, true, false, cond, not, List, [], ◌∷◌, ◌++◌, refl, sym, ◌∙◌, ap, subst, arith, append_assoc, nat_eq, map, inl, inr, ◌⊎◌}
use Rattle.std.specs.Prelude.{◌&&◌, ◌||◌, fold, filter, flat_map}
use Rattle.std.specs.List.{AllByRecursion}
use Rattle.std.specs.Cmp.Lexicographic.{pointwise, same_text}
use Rattle.std.proofs.lemmas.Bool.{eqb-true}
use Rattle.std.proofs.lemmas.Bool.Decides.{nat_tests}
use Rattle.std.proofs.lemmas.Cmp.{nat_list_eq_equiv}
use Rattle.scp_wire.specs.scp_types.specs.declared.names.ConnId.{ConnId}
use Rattle.scp_wire.specs.scp_types.specs.declared.names.Hash.{Hash}
use Rattle.scp_wire.specs.scp_types.specs.declared.names.NodeId.{NodeId}
use Rattle.scp_wire.specs.Connections.{same_node, same_conn}
use Rattle.scp_fetch.specs.Hashes.{same_hash}

pub append_nil : {X : Type 0} (xs : List X) → xs ++ [] ≡ xs
append_nil [] = refl
append_nil (x ∷ xs) = ap (λ ys. x ∷ ys) (append_nil xs)

pub clash : {X : Type 0} (b : Bool) → b ≡ true → b ≡ false → X
clash b p q = absurd (let e : true ≡ false = sym p ∙ q in cc)

pub or_none : (a b : Bool) → (a || b) ≡ false → (a ≡ false) × (b ≡ false)
or_none true b e = absurd cc
or_none false true e = absurd cc
or_none false false e = (refl, refl)

pub if_any : (a b : Bool) → (a || b) ≡ true → (a ≡ true) ⊎ (b ≡ true)
if_any true b e = inl refl
if_any false b e = inr e

pub or_right : (a b : Bool) → b ≡ true → (a || b) ≡ true
or_right true b e = refl
or_right false b e = e

pub or_left : (a b : Bool) → a ≡ true → (a || b) ≡ true
or_left true b e = refl
or_left false b e = absurd cc

pub or_assoc : (a b c : Bool) → (a || (b || c)) ≡ ((a || b) || c)
or_assoc true b c = refl
or_assoc false b c = refl

pub and_both : (a b : Bool) → (a && b) ≡ true → (a ≡ true) × (b ≡ true)
and_both true true e = (refl, refl)
and_both true false e = absurd cc
and_both false b e = absurd cc

pub not_false : (b : Bool) → not b ≡ true → b ≡ false
not_false true e = absurd cc
not_false false e = refl

-- ---- names

pub same_text_of : (a b : List ℕ) → pointwise nat_eq a b ≡ true → a ≡ b
same_text_of a b e = same_text a b (sym e)

pub same_hash-refl : (h : Hash) → same_hash h h ≡ true
same_hash-refl h = nat_list_eq_equiv.refl h.0

pub same_hash-true : (a b : Hash) → same_hash a b ≡ true → a ≡ b
same_hash-true a b e =
    let at : List ℕ → Hash = λ bytes. record { 0 = bytes } in
    ap at (same_text_of a.0 b.0 e)

pub same_hash-sym : (a b : Hash) → same_hash a b ≡ same_hash b a
same_hash-sym a b = nat_list_eq_equiv.symm a.0 b.0

pub same_node-true : (a b : NodeId) → same_node a b ≡ true → a ≡ b
same_node-true a b e =
    let at : List ℕ → NodeId = λ bytes. record { 0 = bytes } in
    ap at (same_text_of a.0 b.0 e)

pub same_node-refl : (a : NodeId) → same_node a a ≡ true
same_node-refl a = nat_list_eq_equiv.refl a.0

pub same_number : (n : ℕ) → nat_eq n n ≡ true
same_number n = grind (arith, nat_tests)

pub same_conn-refl : (c : ConnId) → same_conn c c ≡ true
same_conn-refl c = rw (same_node-refl c.from, same_node-refl c.to, same_number c.life) refl

three_true : (a b c : Bool) → (a && b && c) ≡ true → (a ≡ true) × (b ≡ true) × (c ≡ true)
three_true true true true e = (refl, refl, refl)
three_true true true false e = absurd cc
three_true true false c e = absurd cc
three_true false b c e = absurd cc

pub same_conn-true : (c d : ConnId) → same_conn c d ≡ true → c ≡ d
same_conn-true c d e =
    let all = three_true (same_node c.from d.from) (same_node c.to d.to) (nat_eq c.life d.life) e in
    let at : NodeId → NodeId → ℕ → ConnId = λ f t l. record { from = f; to = t; life = l } in
    ap (λ f. at f c.to c.life) (same_node-true c.from d.from all.0) ∙ ap (λ t. at d.from t c.life) (same_node-true c.to d.to all.1) ∙ ap (λ l. at d.from d.to l) (eqb-true c.life d.life all.2)

-- one connection isn't two
pub same_conn-other : (a b c : ConnId) → same_conn a b ≡ true → same_conn b c ≡ false → same_conn a c ≡ false
same_conn-other a b c e o = subst (λ (d : ConnId). same_conn d c ≡ false) (sym (same_conn-true a b e)) o

-- ---- lists

pub fold-append : {A B : Type 0} (f : B → A → B) (a : B) (xs ys : List A) → fold f a (xs ++ ys) ≡ fold f (fold f a xs) ys
fold-append f a [] ys = refl
fold-append f a (x ∷ xs) ys = fold-append f (f a x) xs ys

pub map-append : {X Y : Type 0} (f : X → Y) (xs ys : List X) → map f (xs ++ ys) ≡ map f xs ++ map f ys
map-append f [] ys = refl
map-append f (x ∷ xs) ys = ap (λ zs. f x ∷ zs) (map-append f xs ys)

pub flat-append : {X Y : Type 0} (f : X → List Y) (xs ys : List X) → flat_map f (xs ++ ys) ≡ flat_map f xs ++ flat_map f ys
flat-append f [] ys = refl
flat-append f (x ∷ xs) ys = ap (λ zs. f x ++ zs) (flat-append f xs ys) ∙ sym (append_assoc (f x) (flat_map f xs) (flat_map f ys))

pub all_step : {X Y : Type 0} (P : X → Type 0) (Q : Y → Type 0) (f : X → Y) (xs : List X) → ((x : X) → P x → Q (f x)) → AllByRecursion P xs → AllByRecursion Q (map f xs)
all_step P Q f [] h a = tt
all_step P Q f (x ∷ xs) h a = (h x a.0, all_step P Q f xs h a.1)

pub all_weaker : {X : Type 0} (P Q : X → Type 0) (xs : List X) → ((x : X) → P x → Q x) → AllByRecursion P xs → AllByRecursion Q xs
all_weaker P Q [] h a = tt
all_weaker P Q (x ∷ xs) h a = (h x a.0, all_weaker P Q xs h a.1)

pub all_append : {X : Type 0} (P : X → Type 0) (xs ys : List X) → AllByRecursion P xs → AllByRecursion P ys → AllByRecursion P (xs ++ ys)
all_append P [] ys a b = b
all_append P (x ∷ xs) ys a b = (a.0, all_append P xs ys a.1 b)

pub all_left : {X : Type 0} (P : X → Type 0) (xs ys : List X) → AllByRecursion P (xs ++ ys) → AllByRecursion P xs × AllByRecursion P ys
all_left P [] ys a = (tt, a)
all_left P (x ∷ xs) ys a = let r = all_left P xs ys a.1 in ((a.0, r.0), r.1)

pub all_both : {X : Type 0} (P Q R : X → Type 0) (xs : List X) → ((x : X) → P x → Q x → R x) → AllByRecursion P xs → AllByRecursion Q xs → AllByRecursion R xs
all_both P Q R [] h a b = tt
all_both P Q R (x ∷ xs) h a b = (h x a.0 b.0, all_both P Q R xs h a.1 b.1)

-- of those that are kept, what the test says too
pub all_kept : {X : Type 0} (P Q : X → Type 0) (keep : X → Bool) (xs : List X) → ((x : X) → P x → keep x ≡ true → Q x) → AllByRecursion P xs → AllByRecursion Q (filter keep xs)
all_kept P Q keep [] h a = tt
all_kept P Q keep (x ∷ xs) h a = by_test (keep x) refl (all_kept P Q keep xs h a.1)
  where
    by_test : (b : Bool) → keep x ≡ b → AllByRecursion Q (filter keep xs) → AllByRecursion Q (cond b (x ∷ filter keep xs) (filter keep xs))
    by_test true e rest = (h x a.0 e, rest)
    by_test false e rest = rest

pub all_filter : {X : Type 0} (P : X → Type 0) (keep : X → Bool) (xs : List X) → AllByRecursion P xs → AllByRecursion P (filter keep xs)
all_filter P keep xs a = all_kept P P keep xs (λ x h e. h) a

pub all_flat : {X Y : Type 0} (P : X → Type 0) (Q : Y → Type 0) (f : X → List Y) (xs : List X) → ((x : X) → P x → AllByRecursion Q (f x)) → AllByRecursion P xs → AllByRecursion Q (flat_map f xs)
all_flat P Q f [] h a = tt
all_flat P Q f (x ∷ xs) h a = all_append Q (f x) (flat_map f xs) (h x a.0) (all_flat P Q f xs h a.1)
