-- Lists, with one thing more.
use Rattle.std.proofs.Common.{◌≡◌, ◌+◌, ◌<◌, ◌≤◌, ℕ, Bool, true, false, cond, List, [], ◌∷◌, ◌++◌, length, take, drop, get_or, map, fold, flat_map, refl, sym, ap, subst, ◌∙◌, inl, inr, append-nil, append_assoc}
use Rattle.std.specs.Prelude.{◌↔◌, Option, Some, None, is_some, IfSome, IfNone, IsTrue}
use Rattle.std.proofs.lemmas.List.{take_more, at_drop_more, at_drop_all}
use Rattle.scp_shown.specs.Listed.{Picks, AddsEach}

pub fold_push : {X Y : Type 0} (f : X → Y → X) (a : X) (xs : List Y) (x : Y) → fold f a (xs ++ x ∷ []) ≡ f (fold f a xs) x
fold_push f a [] x = refl
fold_push f a (y ∷ ys) x = fold_push f (f a y) ys x

pub fold_both : {X Y : Type 0} (f : X → Y → X) (a : X) (xs ys : List Y) → fold f a (xs ++ ys) ≡ fold f (fold f a xs) ys
fold_both f a [] ys = refl
fold_both f a (x ∷ xs) ys = fold_both f (f a x) xs ys

pub map_push : {X Y : Type 0} (f : X → Y) (xs : List X) (x : X) → map f (xs ++ x ∷ []) ≡ map f xs ++ f x ∷ []
map_push f [] x = refl
map_push f (y ∷ ys) x = ap (λ l. f y ∷ l) (map_push f ys x)

pub flat_push : {X Y : Type 0} (f : X → List Y) (xs : List X) (x : X) → flat_map f (xs ++ x ∷ []) ≡ flat_map f xs ++ f x
flat_push f [] x = append-nil (f x)
flat_push f (y ∷ ys) x = ap (λ l. f y ++ l) (flat_push f ys x) ∙ sym (append_assoc (f y) (flat_map f ys) (f x))

-- the things so far, with one more
pub taken : {X : Type 0} (xs : List X) (i : ℕ) (x : X) → i < length xs → x ≡ get_or xs i x → take (i + 1) xs ≡ take i xs ++ x ∷ []
taken xs i x lt e = take_more xs i x lt ∙ ap (λ y. take i xs ++ y ∷ []) (sym e)

-- a fold over the things so far, with one more
pub fold_taken : {X Y : Type 0} (f : X → Y → X) (a : X) (xs : List Y) (i : ℕ) (x : Y) (old new : X) → i < length xs → x ≡ get_or xs i x → old ≡ fold f a (take i xs) → new ≡ f old x → new ≡ fold f a (take (i + 1) xs)
fold_taken f a xs i x old new lt e so_far is = is ∙ ap (λ o. f o x) so_far ∙ sym (fold_push f a (take i xs) x) ∙ ap (λ l. fold f a l) (sym (taken xs i x lt e))

-- ---- things that are picked

picks_in : {X : Type 0} (P : X → Type 0) (xs ys : List X) (x : X) → Picks P xs ys → P x → Picks P (xs ++ x ∷ []) (ys ++ x ∷ [])
picks_in P [] ys x d p = inl ([], p, ap (λ l. l ++ x ∷ []) d, refl)
picks_in P (w ∷ xs) ys x (inl d) p = inl (d.0 ++ x ∷ [], d.1, ap (λ l. l ++ x ∷ []) d.2, picks_in P xs d.0 x d.3 p)
picks_in P (w ∷ xs) ys x (inr d) p = inr (d.0, picks_in P xs ys x d.1 p)

picks_out : {X : Type 0} (P : X → Type 0) (xs ys : List X) (x : X) → Picks P xs ys → ¬ P x → Picks P (xs ++ x ∷ []) ys
picks_out P [] ys x d n = inr (n, d)
picks_out P (w ∷ xs) ys x (inl d) n = inl (d.0, d.1, d.2, picks_out P xs d.0 x d.3 n)
picks_out P (w ∷ xs) ys x (inr d) n = inr (d.0, picks_out P xs ys x d.1 n)

picks_by : {X : Type 0} (P : X → Type 0) (xs ys new : List X) (x : X) (b : Bool) → Picks P xs ys → IsTrue b ↔ P x → new ≡ ys ++ cond b (x ∷ []) [] → Picks P (xs ++ x ∷ []) new
picks_by P xs ys new x true d tells e = subst (λ l. Picks P (xs ++ x ∷ []) l) (sym e) (picks_in P xs ys x d (tells.0 refl))
picks_by P xs ys new x false d tells e = subst (λ l. Picks P (xs ++ x ∷ []) l) (sym (e ∙ append-nil ys)) (picks_out P xs ys x d (λ p. (let t : false ≡ true = tells.1 p in absurd cc)))

picks_not : {X : Type 0} (P : X → Type 0) (xs ys new : List X) (x : X) (b : Bool) → Picks (λ y. ¬ P y) xs ys → IsTrue b ↔ P x → new ≡ ys ++ cond b [] (x ∷ []) → Picks (λ y. ¬ P y) (xs ++ x ∷ []) new
picks_not P xs ys new x true d tells e = subst (λ l. Picks (λ y. ¬ P y) (xs ++ x ∷ []) l) (sym (e ∙ append-nil ys)) (picks_out (λ y. ¬ P y) xs ys x d (λ n. n (tells.0 refl)))
picks_not P xs ys new x false d tells e = subst (λ l. Picks (λ y. ¬ P y) (xs ++ x ∷ []) l) (sym e) (picks_in (λ y. ¬ P y) xs ys x d (λ p. (let t : false ≡ true = tells.1 p in absurd cc)))

-- those of the things so far, with one more
pub picks_taken : {X : Type 0} (P : X → Type 0) (xs : List X) (i : ℕ) (x : X) (b : Bool) (old new : List X) → i < length xs → x ≡ get_or xs i x → Picks P (take i xs) old → IsTrue b ↔ P x → new ≡ old ++ cond b (x ∷ []) [] → Picks P (take (i + 1) xs) new
picks_taken P xs i x b old new lt e d tells is = subst (λ l. Picks P l new) (sym (taken xs i x lt e)) (picks_by P (take i xs) old new x b d tells is)

pub lacks_taken : {X : Type 0} (P : X → Type 0) (xs : List X) (i : ℕ) (x : X) (b : Bool) (old new : List X) → i < length xs → x ≡ get_or xs i x → Picks (λ y. ¬ P y) (take i xs) old → IsTrue b ↔ P x → new ≡ old ++ cond b [] (x ∷ []) → Picks (λ y. ¬ P y) (take (i + 1) xs) new
lacks_taken P xs i x b old new lt e d tells is = subst (λ l. Picks (λ y. ¬ P y) l new) (sym (taken xs i x lt e)) (picks_not P (take i xs) old new x b d tells is)

-- what is picked of one list after another
pub picks_both : {X : Type 0} (P : X → Type 0) (xs zs ys ws : List X) → Picks P xs ys → Picks P zs ws → Picks P (xs ++ zs) (ys ++ ws)
picks_both P [] zs ys ws d e = subst (λ l. Picks P zs (l ++ ws)) (sym d) e
picks_both P (x ∷ xs) zs ys ws (inl d) e = inl (d.0 ++ ws, d.1, ap (λ l. l ++ ws) d.2, picks_both P xs zs d.0 ws d.3 e)
picks_both P (x ∷ xs) zs ys ws (inr d) e = inr (d.0, picks_both P xs zs ys ws d.1 e)

-- ---- things that are added one after another

-- what is added from here on ends as this
abbrev pub Leads : {X Y : Type 0} → (X → List Y → Type 0) → List X → List Y → List X → List Y → Type 0
Leads {X} {Y} R left lines all old = (rest : List Y) → AddsEach R left rest → (more : List Y) × AddsEach R all more × (lines ++ rest ≡ old ++ more)

pub leads_first : {X Y : Type 0} (R : X → List Y → Type 0) (all : List X) (old : List Y) → Leads R all old all old
leads_first R all old = λ rest d. (rest, d, refl)

pub leads_more : {X Y : Type 0} (R : X → List Y → Type 0) (x : X) (left all : List X) (lines new old : List Y) → ((here : List Y) × R x here × (new ≡ lines ++ here)) → Leads R (x ∷ left) lines all old → Leads R left new all old
leads_more R x left all lines new old h inv = λ rest d. (
    let it = inv (h.0 ++ rest) (h.0, rest, h.1, d, refl) in
    (it.0, it.1, ap (λ l. l ++ rest) h.2 ∙ append_assoc lines h.0 rest ∙ it.2))

pub leads_last : {X Y : Type 0} (R : X → List Y → Type 0) (all : List X) (lines old : List Y) → Leads R [] lines all old → (more : List Y) × AddsEach R all more × (lines ≡ old ++ more)
leads_last R all lines old inv = (let it = inv [] refl in (it.0, it.1, sym (append-nil lines) ∙ it.2))

-- ---- a map to lists, over what is left

pub flat_more : {X Y : Type 0} (f : X → List Y) (xs : List X) (i : ℕ) (x : X) (old new all : List Y) → i < length xs → x ≡ get_or xs i x → new ≡ old ++ f x → old ++ flat_map f (drop i xs) ≡ all → new ++ flat_map f (drop (i + 1) xs) ≡ all
flat_more {X = X} {Y = Y} f xs i x old new all lt e wrote so_far =
    let splits : flat_map f (drop i xs) ≡ f x ++ flat_map f (drop (i + 1) xs) = at_drop_more (flat_map f) xs i x lt ∙ ap (λ (y : X). f y ++ flat_map f (drop (i + 1) xs)) (sym e) in
    ap (λ (l : List Y). l ++ flat_map f (drop (i + 1) xs)) wrote ∙ append_assoc old (f x) (flat_map f (drop (i + 1) xs)) ∙ ap (λ (l : List Y). old ++ l) (sym splits) ∙ so_far

pub flat_all : {X Y : Type 0} (f : X → List Y) (xs : List X) (i : ℕ) (old all : List Y) → length xs ≤ i → old ++ flat_map f (drop i xs) ≡ all → old ≡ all
flat_all {Y = Y} f xs i old all long so_far = sym (append-nil old) ∙ ap (λ (l : List Y). old ++ l) (sym (at_drop_all (flat_map f) xs i long)) ∙ so_far

-- ---- things that are added unless a test holds

pub unless_same : {X : Type 0} (xs ys : List X) (b w : Bool) → b ≡ w → b ≡ true → xs ≡ xs ++ cond w [] ys
unless_same xs ys b w is holds = sym (append-nil xs) ∙ ap (λ (t : Bool). xs ++ cond t [] ys) (sym holds ∙ is)

pub unless_other : {X : Type 0} (xs ys new : List X) (b w : Bool) → b ≡ w → b ≡ false → new ≡ xs ++ ys → new ≡ xs ++ cond w [] ys
unless_other xs ys new b w is isnt added = added ∙ ap (λ (t : Bool). xs ++ cond t [] ys) (sym isnt ∙ is)

-- a fact that holds exactly where something is found
pub some_or_none : {C : Type 0} (o : Option C) (P : C → Type 0) (N Q : Type 0) (b : Bool) → b ≡ is_some o → IfSome o P → ((c : C) → P c → Q) → IfNone o N → (N → Q → ⊥) → IsTrue b ↔ Q
some_or_none (Some c) P N Q b is some holds none isnt = (λ t. holds c some, λ q. is)
some_or_none None P N Q b is some holds none isnt = (λ t. (let e : false ≡ true = sym is ∙ t in absurd cc), λ q. absurd (isnt none q))
