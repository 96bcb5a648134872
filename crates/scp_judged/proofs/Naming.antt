-- The sets that are named, with one more.
use Rattle.std.proofs.Common.{◌≡◌, ◌⊎◌, ℕ, Bool, true, false, cond, List, [], ◌∷◌, ◌++◌, Bor, refl, sym, ap, subst, ◌∙◌, inl, inr}
use Rattle.std.specs.Prelude.{Option, Some, None, find, is_some, option_copied}
use Rattle.std.specs.Option.{option_map}
use Rattle.std.specs.Ordering.{is_eq}
use Rattle.std.specs.declared.cmp.Ordering.{Ordering}
use Rattle.std.specs.declared.cmp.Ordering.TheVariants.{Less, Equal, Greater}
use Rattle.std.specs.BTreeMap.{is_at}
use Rattle.std.proofs.lemmas.Map.Lookups.{exact_bytes}
use Rattle.scp_ledger.specs.scp_types.specs.declared.names.Hash.{Hash}
use Rattle.scp_ledger.specs.scp_quorum.specs.QuorumTree.{QuorumTree}
use Rattle.scp_judged.specs.declared.sets.Known.{Known}
use Rattle.scp_judged.specs.Named.{hash_cmp, hash_of, has_hash, named, first_there, NamesToo, set_known}

pub find_more : (p : QuorumTree → Bool) (qs : List QuorumTree) (q : QuorumTree) → find p (qs ++ q ∷ []) ≡ first_there (find p qs) (cond (p q) (Some q) None)
find_more p [] q = refl
find_more p (x ∷ xs) q = by_test (p x) (find_more p xs q)
  where
    by_test : (b : Bool) → find p (xs ++ q ∷ []) ≡ first_there (find p xs) (cond (p q) (Some q) None) → cond b (Some x) (find p (xs ++ q ∷ [])) ≡ first_there (cond b (Some x) (find p xs)) (cond (p q) (Some q) None)
    by_test true e = refl
    by_test false e = e

pub named_more : (sets : List QuorumTree) (q : QuorumTree) (old new : Hash → Option QuorumTree) → ((h : Hash) → old h ≡ named sets h) → NamesToo old new q → (h : Hash) → new h ≡ named (sets ++ q ∷ []) h
named_more sets q old new all more h = more h ∙ ap (λ (o : Option QuorumTree). first_there o (cond (has_hash h q) (Some q) None)) (all h) ∙ sym (find_more (has_hash h) sets q)

-- ---- a set is added under its hash

is_eq-true : (o : Ordering) → is_eq o ≡ true → o ≡ Equal
is_eq-true Less e = cc
is_eq-true Equal e = refl
is_eq-true Greater e = cc

same_hash_at : (a b : Hash) → is_at (hash_cmp a) b ≡ true → a ≡ b
same_hash_at a b e = ap (λ (bytes : List ℕ). let h : Hash = record { 0 = bytes } in h) (exact_bytes a.0 b.0 (is_eq-true (hash_cmp a b) e))

is_there : {X : Type 0} (o other : Option X) → is_some o ≡ true → o ≡ first_there o other
is_there None other e = cc
is_there (Some x) other e = refl

pub or_none : {X : Type 0} (o : Option X) → o ≡ first_there o None
or_none None = refl
or_none (Some x) = refl

which : (b : Bool) → (b ≡ true) ⊎ (b ≡ false)
which true = inl refl
which false = inr refl

-- a set of this hash is there already
pub names_old : (old : Hash → Option QuorumTree) (key : Hash) (q : QuorumTree) → key ≡ hash_of q → is_some (old key) ≡ true → NamesToo old old q
names_old old key q same there = λ h. elim (which (has_hash h q)) as (λ _. old h ≡ first_there (old h) (cond (has_hash h q) (Some q) None)) [
  | inl here ↦ (
      let e : key ≡ h = same ∙ same_hash_at (hash_of q) h here in
      is_there (old h) (cond (has_hash h q) (Some q) None) (subst (λ (k : Hash). is_some (old k) ≡ true) e there))
  | inr isnt ↦ or_none (old h) ∙ ap (λ (b : Bool). first_there (old h) (cond b (Some q) None)) (sym isnt)
]

none_first : {X : Type 0} (o other : Option X) → o ≡ None → other ≡ first_there o other
none_first None other e = refl
none_first (Some x) other e = absurd cc

-- it is the first of its hash
pub names_new : (old new : Hash → Option QuorumTree) (key : Hash) (q : QuorumTree) → key ≡ hash_of q → old key ≡ None → ((h : Hash) → new h ≡ cond (is_at (hash_cmp key) h) (Some q) (old h)) → NamesToo old new q
names_new old new key q same absent put = λ h.
    put h ∙ ap (λ (k : Hash). cond (is_at (hash_cmp k) h) (Some q) (old h)) same
    ∙ (elim (which (has_hash h q)) as (λ _. cond (has_hash h q) (Some q) (old h) ≡ first_there (old h) (cond (has_hash h q) (Some q) None)) [
      | inl here ↦ (
          let e : key ≡ h = same ∙ same_hash_at (hash_of q) h here in
          let none : old h ≡ None = ap old (sym e) ∙ absent in
          ap (λ (b : Bool). cond b (Some q) (old h)) here ∙ none_first (old h) (Some q) none ∙ ap (λ (b : Bool). first_there (old h) (cond b (Some q) None)) (sym here))
      | inr isnt ↦ ap (λ (b : Bool). cond b (Some q) (old h)) isnt ∙ or_none (old h) ∙ ap (λ (b : Bool). first_there (old h) (cond b (Some q) None)) (sym isnt)
    ])

-- what is given by a table
pub known_copied : (r : Option (Bor Known)) (l : Option Known) → option_copied r ≡ l → option_map (λ (k : Bor Known). set_known k.now) r ≡ option_map set_known l
known_copied None l e = ap (option_map set_known) e
known_copied (Some x) l e = ap (option_map set_known) e

pub known_put : (t : Bool) (k : Known) (q : QuorumTree) (o : Option Known) → set_known k ≡ q → option_map set_known (cond t (Some k) o) ≡ cond t (Some q) (option_map set_known o)
known_put true k q o e = ap Some e
known_put false k q o e = refl

pub is_some_known : (o : Option Known) → is_some (option_map set_known o) ≡ is_some o
is_some_known None = refl
is_some_known (Some k) = refl

pub none_of : {X : Type 0} (o : Option X) → is_some o ≡ false → o ≡ None
none_of None e = refl
none_of (Some x) e = absurd cc

pub none_known : (o : Option Known) → o ≡ None → option_map set_known o ≡ None
none_known o e = ap (option_map set_known) e
