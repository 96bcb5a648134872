-- Nodes are gathered one by one.
use Rattle.std.specs.Prelude.{is_some}
use Rattle.std.specs.Option.{option_map}
use Rattle.std.proofs.Common.{◌≡◌, ◌↔◌, ◌+◌, ◌<◌, ◌≤◌, ℕ, Option, Some, None, cond, Bool, true, false, not, ◌&&◌, ◌||◌, List, [], ◌∷◌, ◌++◌, length, take, get_or, Contains, refl, sym, ◌∙◌, ap, subst, ◌⊎◌, inl, inr}
use Rattle.std.proofs.lemmas.List.{take_more, take_all}
use Rattle.std.proofs.lemmas.List.Elements.{Contains-append_left, Contains-push, Contains-push_cases}
use Rattle.std.specs.BTreeMap.{is_at}
use Rattle.scp_slot.specs.scp_types.specs.declared.names.NodeId.{NodeId}
use Rattle.scp_slot.specs.scp_quorum.specs.NodeSet.{node_cmp}
use Rattle.scp_script.specs.scp_wire.specs.Connections.{same_node}
use Rattle.scp_stand_slot.proofs.Same.{decided, same_at, at_itself}

-- a node was put into a set
pub set_more : (old new : NodeId → Bool) (u : NodeId) → ((w : NodeId) → new w ≡ cond (is_at (node_cmp u) w) true (old w)) → (v : NodeId) → (new v ≡ true) ↔ ((old v ≡ true) ⊎ (u ≡ v))
set_more old new u puts v = (
  (λ h. elim (decided (is_at (node_cmp u) v)) [
    | inl here ↦ inr (same_at u v here)
    | inr apart ↦ inl (sym (puts v ∙ ap (λ (t : Bool). cond t true (old v)) apart) ∙ h)
  ]),
  λ h. elim h [
    | inl was ↦ elim (decided (is_at (node_cmp u) v)) [
      | inl here ↦ puts v ∙ ap (λ (t : Bool). cond t true (old v)) here
      | inr apart ↦ puts v ∙ ap (λ (t : Bool). cond t true (old v)) apart ∙ was
    ]
    | inr same ↦ subst (λ (w : NodeId). new w ≡ true) same (puts u ∙ ap (λ (t : Bool). cond t true (old u)) (at_itself u))
  ],
)

-- beside the first of the set those of the front that aren't this one
abbrev pub Others : NodeId → (NodeId → Bool) → List NodeId → (NodeId → Bool) → Type 0
Others me first front now = (v : NodeId) → (now v ≡ true) ↔ ((first v ≡ true) ⊎ (Contains front v × (same_node v me ≡ false)))

-- a node was added, if it isn't this one
abbrev pub Joins : NodeId → (NodeId → Bool) → NodeId → (NodeId → Bool) → Type 0
Joins me now u new = (v : NodeId) → (new v ≡ true) ↔ ((now v ≡ true) ⊎ ((u ≡ v) × (same_node u me ≡ false)))

pub others_more : (me : NodeId) (first now new : NodeId → Bool) (front : List NodeId) (u : NodeId) → Joins me now u new → Others me first front now → Others me first (front ++ u ∷ []) new
others_more me first now new front u adds before v = (
  (λ h. elim ((adds v).0 h) [
    | inl was ↦ elim ((before v).0 was) [ inl old ↦ inl old | inr of ↦ inr (Contains-append_left front (u ∷ []) v of.0, of.1) ]
    | inr same ↦ inr (subst (λ (w : NodeId). Contains (front ++ u ∷ []) w) same.0 (Contains-push front u), subst (λ (w : NodeId). same_node w me ≡ false) same.0 same.1)
  ]),
  λ h. elim h [
    | inl old ↦ (adds v).1 (inl ((before v).1 (inl old)))
    | inr of ↦ elim (Contains-push_cases front u v of.0) [
      | inl was ↦ (adds v).1 (inl ((before v).1 (inr (was, of.1))))
      | inr same ↦ (adds v).1 (inr (same, subst (λ (w : NodeId). same_node w me ≡ false) (sym same) of.1))
    ]
  ],
)

not_both : (b : Bool) → b ≡ true → b ≡ false → ⊥
not_both b e f = let wrong : true ≡ false = sym e ∙ f in absurd cc

pub joins_not : (me : NodeId) (now : NodeId → Bool) (u : NodeId) → same_node u me ≡ true → Joins me now u now
joins_not me now u itself v = ((λ h. inl h), λ h. elim h [ inl was ↦ was | inr same ↦ absurd (not_both (same_node u me) itself same.1) ])

pub joins_one : (me : NodeId) (now new : NodeId → Bool) (u : NodeId) → same_node u me ≡ false → ((v : NodeId) → (new v ≡ true) ↔ ((now v ≡ true) ⊎ (u ≡ v))) → Joins me now u new
joins_one me now new u other adds v = (
  (λ h. elim ((adds v).0 h) [ inl was ↦ inl was | inr same ↦ inr (same, other) ]),
  λ h. (adds v).1 (elim h [ inl was ↦ inl was | inr same ↦ inr same.0 ]),
)

front_is : (xs : List NodeId) (i : ℕ) (d u : NodeId) → i < length xs → get_or xs i d ≡ u → take i xs ++ u ∷ [] ≡ take (i + 1) xs
front_is xs i d u lt is = sym (take_more xs i d lt ∙ ap (λ (x : NodeId). take i xs ++ x ∷ []) is)

pub others_at : (me : NodeId) (first now new : NodeId → Bool) (xs : List NodeId) (i : ℕ) (d u : NodeId) → i < length xs → get_or xs i d ≡ u → Joins me now u new → Others me first (take i xs) now → Others me first (take (i + 1) xs) new
others_at me first now new xs i d u lt is adds before = subst (λ (front : List NodeId). Others me first front new) (front_is xs i d u lt is) (others_more me first now new (take i xs) u adds before)

pub others_all : (me : NodeId) (first now : NodeId → Bool) (xs : List NodeId) (i : ℕ) → length xs ≤ i → Others me first (take i xs) now → Others me first xs now
others_all me first now xs i long all = subst (λ (front : List NodeId). Others me first front now) (take_all i xs long) all

parts : (a n b : Bool) → ((not a && (n || b)) ≡ true) ↔ (((n ≡ true) × (a ≡ false)) ⊎ ((b ≡ true) × (a ≡ false)))
parts true n b = ((λ h. absurd cc), λ h. elim h [ inl p ↦ absurd (not_both true refl p.1) | inr p ↦ absurd (not_both true refl p.1) ])
parts false true b = ((λ h. inl (refl, refl)), λ h. refl)
parts false false true = ((λ h. inr (refl, refl)), λ h. refl)
parts false false false = ((λ h. absurd cc), λ h. elim h [ inl p ↦ p.0 | inr p ↦ p.0 ])

-- those of two lists, after nothing
pub both_heard : (me : NodeId) (none one two : NodeId → Bool) (xs ys : List NodeId) (n b : NodeId → Bool) → ((v : NodeId) → none v ≡ false)
    → ((v : NodeId) → Contains xs v ↔ (n v ≡ true)) → ((v : NodeId) → Contains ys v ↔ (b v ≡ true)) → Others me none xs one → Others me one ys two
    → (v : NodeId) → (two v ≡ true) ↔ ((not (same_node v me) && (n v || b v)) ≡ true)
both_heard me none one two xs ys n b empty ns bs first second v = (
  (λ h. elim ((second v).0 h) [
    | inl was ↦ elim ((first v).0 was) [
      | inl old ↦ absurd (not_both (none v) old (empty v))
      | inr of ↦ (parts (same_node v me) (n v) (b v)).1 (inl ((ns v).0 of.0, of.1))
    ]
    | inr of ↦ (parts (same_node v me) (n v) (b v)).1 (inr ((bs v).0 of.0, of.1))
  ]),
  λ h. elim ((parts (same_node v me) (n v) (b v)).0 h) [
    | inl p ↦ (second v).1 (inl ((first v).1 (inr ((ns v).1 p.0, p.1))))
    | inr p ↦ (second v).1 (inr ((bs v).1 p.0, p.1))
  ],
)

pub some_mapped : {A B : Type 0} (f : A → B) (o : Option A) → is_some (option_map f o) ≡ is_some o
some_mapped f None = refl
some_mapped f (Some x) = refl
