-- One set more has a name.
use Rattle.std.proofs.Common.{◌≡◌, ℕ, Bool, true, false, cond, List, [], ◌∷◌, ◌++◌, Option, Some, None, IsSome, Contains, refl, sym, ◌∙◌, ap, subst, inl, inr}
use Rattle.std.specs.Option.{option_map, unwrap_or}
use Rattle.std.specs.BTreeMap.{is_at}
use Rattle.std.proofs.lemmas.List.Elements.{Contains-append_left, Contains-push, Contains-push_cases}
use Rattle.scp_slot.specs.scp_types.specs.declared.names.Hash.{Hash}
use Rattle.scp_slot.specs.scp_quorum.specs.QuorumTree.{QuorumTree}
use Rattle.scp_slot.specs.scp_quorum.specs.QuorumKind.{set_hash}
use Rattle.scp_text.specs.Sets.{set_text}
use Rattle.scp_stand_slot.specs.NodeNames.{Naming}
use Rattle.scp_stand_slot.specs.declared.names.Names.{Names}
use Rattle.scp_stand_slot.specs.Names.{hash_cmp, text_at, AreNamesOf}
use Rattle.scp_stand_slot.proofs.Same.{decided, same_hash, hash_itself}

map_cond : {A B : Type 0} (f : A → B) (b : Bool) (x : A) (o : Option A) → option_map f (cond b (Some x) o) ≡ cond b (Some (f x)) (option_map f o)
map_cond f true x o = refl
map_cond f false x o = refl

-- a text was put in the place of a hash
abbrev pub PutsText : Hash → List ℕ → Names → Names → Type 0
PutsText hash text old new = (h : Hash) → text_at new h ≡ cond (is_at (hash_cmp hash) h) (Some text) (text_at old h)

some_is : (a b : List ℕ) → Some a ≡ Some b → a ≡ b
some_is a b e = ap (λ (o : Option (List ℕ)). unwrap_or o []) e

cond_true : {A : Type 0} (b : Bool) (x y : A) → b ≡ true → cond b x y ≡ x
cond_true true x y e = refl
cond_true false x y e = absurd cc

cond_false : {A : Type 0} (b : Bool) (x y : A) → b ≡ false → cond b x y ≡ y
cond_false true x y e = absurd cc
cond_false false x y e = refl

module _ (sets : List QuorumTree) (nodes : List Naming) (set : QuorumTree) (hash : Hash) (text : List ℕ) (old new : Names) (puts : PutsText hash text old new) (stays : new.nodes.items ≡ old.nodes.items) (is : hash.0 ≡ set_hash set) (told : text ≡ set_text set) (before : AreNamesOf sets nodes old) where
  here : (h : Hash) → is_at (hash_cmp hash) h ≡ true → text_at new h ≡ Some text
  here h e = puts h ∙ cond_true (is_at (hash_cmp hash) h) (Some text) (text_at old h) e

  apart : (h : Hash) → is_at (hash_cmp hash) h ≡ false → text_at new h ≡ text_at old h
  apart h e = puts h ∙ cond_false (is_at (hash_cmp hash) h) (Some text) (text_at old h) e

  itself : (h : Hash) → hash ≡ h → IsSome (text_at new h)
  itself h e = subst (λ (k : Hash). IsSome (text_at new k)) e (subst (λ o. IsSome o) (sym (here hash (hash_itself hash))) refl)

  each_more : (h : Hash) (t : List ℕ) → text_at new h ≡ Some t → (s : QuorumTree) × Contains (sets ++ set ∷ []) s × (h.0 ≡ set_hash s) × (t ≡ set_text s)
  each_more h t e = elim (decided (is_at (hash_cmp hash) h)) [
    | inl at ↦
        let same : hash ≡ h = same_hash hash h at in
        (set, Contains-push sets set, subst (λ (k : Hash). k.0 ≡ set_hash set) same is, sym (some_is text t (sym (here h at) ∙ e)) ∙ told)
    | inr off ↦ let b = before.each h t (sym (apart h off) ∙ e) in (b.0, Contains-append_left sets (set ∷ []) b.0 b.1, b.2, b.3)
  ]

  all_more : (s : QuorumTree) → Contains (sets ++ set ∷ []) s → (h : Hash) → h.0 ≡ set_hash s → IsSome (text_at new h)
  all_more s has h e = elim (Contains-push_cases sets set s has) [
    | inl was ↦ elim (decided (is_at (hash_cmp hash) h)) [
      | inl at ↦ itself h (same_hash hash h at)
      | inr off ↦ subst (λ o. IsSome o) (sym (apart h off)) (before.all s was h e)
    ]
    | inr same ↦ itself h (ap (λ bytes. let k : Hash = record { 0 = bytes } in k) (is ∙ ap set_hash same ∙ sym e))
  ]

  pub named_more : AreNamesOf (sets ++ set ∷ []) nodes new
  named_more = record { each = each_more; all = all_more; called = stays ∙ before.called }

pub puts_text : {X : Type 0} (f : X → List ℕ) (hash : Hash) (text : X) (old new : Hash → Option X) → ((h : Hash) → new h ≡ cond (is_at (hash_cmp hash) h) (Some text) (old h))
    → (h : Hash) → option_map f (new h) ≡ cond (is_at (hash_cmp hash) h) (Some (f text)) (option_map f (old h))
puts_text f hash text old new updates h = ap (option_map f) (updates h) ∙ map_cond f (is_at (hash_cmp hash) h) text (old h)
