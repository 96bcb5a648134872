-- One round more has its leader.
use Rattle.std.specs.Option.{unwrap_or}
use Rattle.std.proofs.lemmas.Option.{slice_get-get_or}
use Rattle.std.proofs.Common.{◌≡◌, ◌↔◌, ◌+◌, ◌<◌, ◌≤◌, ℕ, Bool, true, List, [], ◌∷◌, length, get_or, Option, Some, None, sym, ◌∙◌, ap, subst, ◌⊎◌, inl, inr, arith}
use Rattle.std.specs.Prelude.{slice_get}
use Rattle.std.proofs.lemmas.Bool.{cases_lt}
use Rattle.scp_slot.specs.scp_types.specs.declared.names.NodeId.{NodeId}
use Rattle.std.specs.List.Sorted.{IsStrictlySortedBy}
use Rattle.scp_slot.specs.scp_quorum.specs.NodeSet.{node_cmp}
use Rattle.scp_slot.specs.scp_nominate.specs.Turns.{Leads}

pub leads_more : (place : ℕ → ℕ → ℕ) (members : List NodeId) (n : ℕ) (old new : NodeId → Bool)
    → ((v : NodeId) → (new v ≡ true) ↔ ((old v ≡ true) ⊎ (slice_get members (place (n + 1) (length members)) ≡ Some v)))
    → ((v : NodeId) → (old v ≡ true) ↔ Leads place members n v) → (v : NodeId) → (new v ≡ true) ↔ Leads place members (n + 1) v
leads_more place members n old new adds before v = (
  (λ h. elim ((adds v).0 h) [
    | inl was ↦ let l = (before v).0 was in (l.0, l.1, omega (arith, l.2), l.3)
    | inr now ↦ (n + 1, omega arith, omega arith, now)
  ]),
  λ h. elim (cases_lt h.0 (n + 1)) [
    | inl below ↦ (adds v).1 (inl ((before v).1 (h.0, h.1, omega (arith, below), h.3)))
    | inr last ↦
        let e : h.0 ≡ n + 1 = omega (arith, last, h.2) in
        (adds v).1 (inr (subst (λ (r : ℕ). slice_get members (place r (length members)) ≡ Some v) e h.3))
  ],
)

pub leads_none : (place : ℕ → ℕ → ℕ) (members : List NodeId) (v : NodeId) → Leads place members 0 v → ⊥
leads_none place members v l = omega (arith, l.1, l.2)

node_some : (o : Option NodeId) (a b : NodeId) → o ≡ Some a → o ≡ Some b → a ≡ b
node_some o a b p q = let e : Some a ≡ Some b = sym p ∙ q in ap (λ (x : Option NodeId). unwrap_or x a) e

-- the node at the place is the one that was added
pub led : (members : List NodeId) (k m : ℕ) (d : NodeId) (old new : NodeId → Bool) → k < length members → k ≡ m → ((v : NodeId) → (new v ≡ true) ↔ ((old v ≡ true) ⊎ (get_or members k d ≡ v)))
    → (v : NodeId) → (new v ≡ true) ↔ ((old v ≡ true) ⊎ (slice_get members m ≡ Some v))
led members k m d old new lt same added v =
    let at : slice_get members m ≡ Some (get_or members k d) = ap (slice_get members) (sym same) ∙ slice_get-get_or members k d lt in (
      (λ h. elim ((added v).0 h) [ inl o ↦ inl o | inr e ↦ inr (at ∙ ap Some e) ]),
      λ h. (added v).1 (elim h [ inl o ↦ inl o | inr e ↦ inr (node_some (slice_get members m) (get_or members k d) v at e) ]),
    )

pub nobody_leads : (place : ℕ → ℕ → ℕ) (members : List NodeId) (n : ℕ) (v : NodeId) → length members ≡ 0 → Leads place members n v → ⊥
nobody_leads place [] n v e l = let h : None ≡ Some v = l.3 in absurd cc
nobody_leads place (m ∷ ms) n v e l = absurd (omega (arith, e))

pub nothing_sorted : IsStrictlySortedBy node_cmp []
unfolding IsStrictlySortedBy
nothing_sorted = tt
