-- Names of configurations that agree, and networks of them.
use Rattle.std.proofs.Common.{◌≡◌, ℕ, zero, suc, ◌+◌, ◌<◌, Bool, true, false, List, [], ◌∷◌, ◌++◌, take, length, get_or, Some, string_bytes, arith, refl, sym, ap, ◌∙◌, subst, inl, inr}
use Rattle.std.specs.Prelude.{nat_eq}
use Rattle.std.specs.Cmp.Lexicographic.{pointwise}
use Rattle.std.specs.List.{All, Any, list_any, slice_get}
use Rattle.std.proofs.lemmas.Bool.{cases_order}
use Rattle.std.proofs.lemmas.Grind.{common_steps}
use Rattle.std.proofs.lemmas.List.Elements.{All-push, All-nil, All-weaker}
use Rattle.std.proofs.lemmas.List.{take_more}
use Rattle.std.proofs.lemmas.List.Folds.{Any-from_list_any, list_any-from_Any}
use Rattle.std.proofs.lemmas.List.Quantifiers.{Any-push}
use Rattle.std.proofs.lemmas.Option.{same_Some, slice_get_within, slice_get-get_or, get_or_from_slice_get}
use Rattle.scp_live_config.specs.Names.{Identity, NoTwo}
use Rattle.scp_live_config.proofs.Lists.{no_two_push}
use Rattle.scp_quorum_search.specs.scp_types.specs.declared.names.NodeId.{NodeId}
use Rattle.scp_quorum_files.specs.declared.network.Named.{Named}
use Rattle.scp_quorum_files.specs.Configs.{IsNamed}
use Rattle.scp_quorum_files.specs.inside.Agreeing.{Agrees, AddAll, NoneHave}
use Rattle.scp_quorum_files.proofs.Once.{eq_itself, eq_same}
use Rattle.scp_quorum_files.proofs.Reached.{any_kept, any_push_cases}

clash : {X : Type 0} (b : Bool) → b ≡ true → b ≡ false → X
clash b is_so not_so = absurd (let f : true ≡ false = sym is_so ∙ not_so in cc)

-- an element that some of the list are, and its place
pub place_of : {X : Type 0} (P : X → Type 0) (xs : List X) → Any P xs → (i : ℕ) × (x : X) × (slice_get xs i ≡ Some x) × P x
place_of P xs (i, x, lt, at, holds) = (i, x, slice_get-get_or xs i x lt ∙ ap Some at, holds)

pub any_at : {X : Type 0} (P : X → Type 0) (xs : List X) (i : ℕ) (x : X) → slice_get xs i ≡ Some x → P x → Any P xs
any_at P xs i x at holds = (i, x, slice_get_within xs i x at, get_or_from_slice_get xs i x x at, holds)

-- two elements of one f are one
one_of : {A B : Type 0} (f : A → B) (xs : List A) (i j : ℕ) (x y : A) → NoTwo f xs → slice_get xs i ≡ Some x → slice_get xs j ≡ Some y → f x ≡ f y → x ≡ y
one_of f xs i j x y apart at_i at_j same =
    elim (cases_order i j) [
      | inl eq ↦ same_Some x y (sym at_i ∙ ap (slice_get xs) eq ∙ at_j)
      | inr (inl lt) ↦ absurd (apart i j x y lt at_i at_j same)
      | inr (inr gt) ↦ absurd (apart j i y x gt at_j at_i (sym same))
    ]

-- ---- one name

-- a node that doesn't agree with an identity can't be with it
pub disagrees : (old : List Named) (i : Identity) → Any (λ n. Agrees n i → ⊥) old → NoneHave old (i ∷ [])
disagrees old i any all kept there apart =
    let found = place_of (λ n. Agrees n i → ⊥) old any in
    let n : Named = found.1 in
    let k : ℕ = found.0 in
    let at : slice_get old k ≡ Some n = found.2 in
    let never : Agrees n i → ⊥ = found.3 in
    let own : Identity = record { name = string_bytes n.name; id = n.id } in
    let mine = place_of (IsNamed own) all (kept own (any_at (IsNamed own) old k n at (refl, refl))) in
    let other = place_of (IsNamed i) all (there 0 i (omega arith)) in
    never (
      λ named. (
          let same : mine.1 ≡ other.1 = one_of (λ (m : Named). string_bytes m.name) all mine.0 other.0 mine.1 other.1 apart.0 mine.2 other.2 (mine.3.0 ∙ named ∙ sym other.3.0) in
          sym mine.3.1 ∙ ap (λ (m : Named). m.id) same ∙ other.3.1),
      λ ids. (
          let same : mine.1 ≡ other.1 = one_of (λ (m : Named). m.id) all mine.0 other.0 mine.1 other.1 apart.1 mine.2 other.2 (mine.3.1 ∙ ids ∙ sym other.3.1) in
          sym mine.3.0 ∙ ap (λ (m : Named). string_bytes m.name) same ∙ other.3.0),
    )

-- nodes that all agree with an identity, of which one has its id
pub known_already : (old : List Named) (i : Identity) → All (λ n. Agrees n i) old → Any (λ n. n.id ≡ i.id) old → AddAll old (i ∷ []) old
known_already old i agree (k, n, lt, at, same) =
    let P : Named → Type 0 = λ m. Agrees m i in
    let agreed : Agrees n i = subst P at (agree k n lt) in
    let here : Any (IsNamed i) old = (k, n, lt, at, (agreed.1 same, same)) in
    record {
      kept = λ j any. any;
      there = one_each here;
      from = λ j any. inl any;
      apart = λ apart. apart;
    }
  where
    one_each : Any (IsNamed i) old → All (λ j. Any (IsNamed j) old) (i ∷ [])
    one_each here zero d lt = here
    one_each here (suc k) d lt = absurd (omega arith)

-- nodes that all agree with an identity, of which none has its id
pub added_last : (old : List Named) (i : Identity) (n : Named) → IsNamed i n → All (λ m. Agrees m i) old → (Any (λ m. m.id ≡ i.id) old → ⊥) → AddAll old (i ∷ []) (old ++ n ∷ [])
added_last old i n is agree unknown = record {
  kept = λ j any. any_kept (IsNamed j) old n any;
  there = one_each;
  from = λ j any. elim (any_push_cases (IsNamed j) old n any) [
    | inl before ↦ inl before
    | inr last ↦ inr (0, i, omega arith, refl, identity_is i j (sym is.0 ∙ last.0) (sym is.1 ∙ last.1))
  ];
  apart = λ apart. (
    no_two_push (λ (m : Named). string_bytes m.name) old n apart.0 (λ k m at same. unknown (any_at (λ x. x.id ≡ i.id) old k m at ((agreed k m at).0 (same ∙ is.0)))),
    no_two_push (λ (m : Named). m.id) old n apart.1 (λ k m at same. unknown (any_at (λ x. x.id ≡ i.id) old k m at (same ∙ is.1))),
  );
}
  where
    one_each : All (λ j. Any (IsNamed j) (old ++ n ∷ [])) (i ∷ [])
    one_each zero d lt = Any-push (IsNamed i) old n is
    one_each (suc k) d lt = absurd (omega arith)

    agreed : (k : ℕ) (m : Named) → slice_get old k ≡ Some m → Agrees m i
    agreed k m at =
        let P : Named → Type 0 = λ x. Agrees x i in
        subst P (get_or_from_slice_get old k m m at) (agree k m (slice_get_within old k m at))

    identity_is : (a b : Identity) → a.name ≡ b.name → a.id ≡ b.id → a ≡ b
    identity_is a b e f =
        let first : a ≡ record { name = b.name; id = a.id } = ap (λ (t : List ℕ). let x : Identity = record { name = t; id = a.id } in x) e in
        first ∙ ap (λ (v : NodeId). let x : Identity = record { name = b.name; id = v } in x) f

-- ---- names after names

pub adds_none : (old : List Named) → AddAll old [] old
adds_none old = record { kept = λ i any. any; there = All-nil (λ i. Any (IsNamed i) old); from = λ i any. inl any; apart = λ apart. apart }

pub adds_more : (old now new : List Named) (done : List Identity) (i : Identity) → AddAll old done now → AddAll now (i ∷ []) new → AddAll old (done ++ i ∷ []) new
adds_more old now new done i before last = record {
  kept = λ j any. last.kept j (before.kept j any);
  there = All-push (λ j. Any (IsNamed j) new) done i (All-weaker (λ j. Any (IsNamed j) now) (λ j. Any (IsNamed j) new) (λ j any. last.kept j any) done before.there) (last.there 0 i (omega arith));
  from = λ j any. elim (last.from j any) [
    | inl so_far ↦ elim (before.from j so_far) [
      | inl first ↦ inl first
      | inr listed ↦ inr (any_kept (λ x. x ≡ j) done i listed)
    ]
    | inr this ↦ inr (Any-push (λ x. x ≡ j) done i (only this))
  ];
  apart = λ apart. last.apart (before.apart apart);
}
  where
    only : {j : Identity} → Any (λ x. x ≡ j) (i ∷ []) → i ≡ j
    only (zero, x, lt, at, is) = at ∙ is
    only (suc k, x, lt, at, is) = absurd (omega arith)

-- an identity that can't be added to those before it
pub cannot_add : (old now : List Named) (done all : List Identity) (i : Identity) → AddAll old done now → ((j : Identity) → Any (λ x. x ≡ j) (done ++ i ∷ []) → Any (λ x. x ≡ j) all) → NoneHave now (i ∷ []) → NoneHave old all
cannot_add old now done all i before within never nodes kept there apart =
    never nodes (λ j any. elim (before.from j any) [
      | inl first ↦ kept j first
      | inr listed ↦ given j (within j (any_kept (λ x. x ≡ j) done i listed))
    ]) one_each apart
  where
    given : (j : Identity) → Any (λ x. x ≡ j) all → Any (IsNamed j) nodes
    given j (k, x, lt, at, is) =
        let P : Identity → Type 0 = λ y. Any (IsNamed y) nodes in
        subst P is (subst P at (there k x lt))

    one_each : All (λ j. Any (IsNamed j) nodes) (i ∷ [])
    one_each zero d lt = given i (within i (Any-push (λ x. x ≡ i) done i refl))
    one_each (suc k) d lt = absurd (omega arith)

-- ---- ids that are there

node_eq : (v w : NodeId) → pointwise nat_eq v.0 w.0 ≡ true → v ≡ w
node_eq v w e = ap (λ (bytes : List ℕ). let n : NodeId = record { 0 = bytes } in n) (eq_same v.0 w.0 e)

pub id_there : (old : List Named) (id : NodeId) → list_any (λ n. pointwise nat_eq n.id.0 id.0) old ≡ true → Any (λ n. n.id ≡ id) old
id_there old id e = of (Any-from_list_any (λ (n : Named). pointwise nat_eq n.id.0 id.0) old e)
  where
    of : Any (λ (n : Named). pointwise nat_eq n.id.0 id.0 ≡ true) old → Any (λ n. n.id ≡ id) old
    of (k, n, lt, at, same) = (k, n, lt, at, node_eq n.id id same)

pub id_absent : (old : List Named) (id : NodeId) → list_any (λ n. pointwise nat_eq n.id.0 id.0) old ≡ false → Any (λ n. n.id ≡ id) old → ⊥
id_absent old id e (k, n, lt, at, same) =
    let here : pointwise nat_eq n.id.0 id.0 ≡ true = ap (λ (v : NodeId). pointwise nat_eq v.0 id.0) same ∙ eq_itself id.0 in
    clash (list_any (λ (m : Named). pointwise nat_eq m.id.0 id.0) old) (list_any-from_Any (λ (m : Named). pointwise nat_eq m.id.0 id.0) old (k, n, lt, at, here)) e

-- those up to a place, and one more
pub taken_more : {X : Type 0} (xs : List X) (i : ℕ) (x : X) → i < length xs → x ≡ get_or xs i x → take i xs ++ x ∷ [] ≡ take (i + 1) xs
taken_more xs i x lt is = ap (λ n. take i xs ++ n ∷ []) is ∙ sym (take_more xs i x lt)

pub any_taken : {X : Type 0} (P : X → Type 0) (xs : List X) (i : ℕ) (x : X) → i < length xs → x ≡ get_or xs i x → Any P (take i xs ++ x ∷ []) → Any P xs
any_taken P xs i x lt is any =
    let Q : List _ → Type 0 = λ l. Any P l in
    of (subst Q (taken_more xs i x lt is) any)
  where
    of : Any P (take (i + 1) xs) → Any P xs
    of (k, y, low, at, holds) = (k, y, grind (arith, common_steps), grind (arith, common_steps), holds)
