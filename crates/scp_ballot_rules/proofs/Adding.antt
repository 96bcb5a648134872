-- Ballots are added to a list.
use Rattle.std.proofs.Common.{◌≡◌, ◌≢◌, ℕ, List, Option, Some, None, sym, ◌∙◌, ap, ◌⊎◌, inl, inr}
use Rattle.scp_vote.specs.scp_types.specs.declared.ballot.Ballot.{Ballot}
use Rattle.scp_ballot_rules.specs.inside.Finding.{Adds}

module _ (P Q : Ballot → Type 0) where
  -- what is added under one name is added under another
  pub adds_as : (old new : List Ballot) → ((x : Ballot) → x.counter ≢ 0 → P x → Q x) → ((x : Ballot) → x.counter ≢ 0 → Q x → P x) → Adds P old new → Adds Q old new
  adds_as old new to from adds x = (
    λ h. elim ((adds x).0 h) [ inl was ↦ inl was | inr now ↦ inr (to x now.1 now.0, now.1) ],
    λ h. (adds x).1 (elim h [ inl was ↦ inl was | inr now ↦ inr (from x now.1 now.0, now.1) ]),
  )

  pub adds_then : (old mid new : List Ballot) → Adds P old mid → Adds Q mid new → Adds (λ x. P x ⊎ Q x) old new
  adds_then old mid new first second x = (
    λ h. elim ((second x).0 h) [
      | inl was ↦ elim ((first x).0 was) [ inl before ↦ inl before | inr now ↦ inr (inl now.0, now.1) ]
      | inr now ↦ inr (inr now.0, now.1)
    ],
    λ h. (second x).1 (elim h [
      | inl was ↦ inl ((first x).1 (inl was))
      | inr (now, counted) ↦ elim now [ inl p ↦ inl ((first x).1 (inr (p, counted))) | inr q ↦ inr (q, counted) ]
    ]),
  )

-- nothing is added where P holds of nothing
pub adds_none : (P : Ballot → Type 0) (list : List Ballot) → ((x : Ballot) → x.counter ≢ 0 → P x → ⊥) → Adds P list list
adds_none P list none x = (λ h. inl h, λ h. elim h [ inl was ↦ was | inr now ↦ absurd (none x now.1 now.0) ])

some_is : (a x : Ballot) → Some a ≡ Some x → a ≡ x
some_is a x e = cc

none_is_no_some : (x : Ballot) → None ≡ Some x → ⊥
none_is_no_some x e = cc

pub adds_some : (o : Option Ballot) (a : Ballot) (old new : List Ballot) → o ≡ Some a → Adds (λ x. a ≡ x) old new → Adds (λ x. o ≡ Some x) old new
adds_some o a old new is adds = adds_as (λ x. a ≡ x) (λ x. o ≡ Some x) old new (λ x n e. is ∙ ap Some e) (λ x n e. some_is a x (sym is ∙ e)) adds

pub adds_no : (o : Option Ballot) (list : List Ballot) → o ≡ None → Adds (λ x. o ≡ Some x) list list
adds_no o list is = adds_none (λ x. o ≡ Some x) list (λ x n e. none_is_no_some x (sym is ∙ e))

-- both ends of a range
ballot_is : (n : ℕ) (v : List ℕ) (x : Ballot) → n ≡ x.counter → v ≡ x.value → (let b : Ballot = record { counter = n; value = v } in b) ≡ x
ballot_is n v x e f = ap (λ k. let b : Ballot = record { counter = k; value = v } in b) e ∙ ap (λ w. let b : Ballot = record { counter = x.counter; value = w } in b) f

pub adds_ends : (low high : ℕ) (v : List ℕ) (old mid new : List Ballot) → Adds (λ x. (let b : Ballot = record { counter = low; value = v } in b) ≡ x) old mid → Adds (λ x. (let b : Ballot = record { counter = high; value = v } in b) ≡ x) mid new
    → Adds (λ x. (v ≡ x.value) × ((low ≡ x.counter) ⊎ (high ≡ x.counter))) old new
adds_ends low high v old mid new first second =
    let Low : Ballot → Type 0 = λ x. (let b : Ballot = record { counter = low; value = v } in b) ≡ x in
    let High : Ballot → Type 0 = λ x. (let b : Ballot = record { counter = high; value = v } in b) ≡ x in
    adds_as (λ x. Low x ⊎ High x) (λ x. (v ≡ x.value) × ((low ≡ x.counter) ⊎ (high ≡ x.counter))) old new
    (λ x n h. elim h [ inl e ↦ (ap (λ (b : Ballot). b.value) e, inl (ap (λ (b : Ballot). b.counter) e)) | inr e ↦ (ap (λ (b : Ballot). b.value) e, inr (ap (λ (b : Ballot). b.counter) e)) ])
    (λ x n h. elim h.1 [ inl e ↦ inl (ballot_is low v x e h.0) | inr e ↦ inr (ballot_is high v x e h.0) ])
    (adds_then Low High old mid new first second)
