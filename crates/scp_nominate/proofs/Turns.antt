-- One after the other, over a loop; and what one value does.
use Rattle.std.proofs.Common.{◌≡◌, ◌≢◌, ◌<◌, ◌≤◌, ◌+◌, ℕ, zero, suc, List, [], ◌∷◌, length, get_or, drop, Option, Some, None, refl, sym, ◌∙◌, ap, subst, ◌⊎◌, inl, inr, arith, Contains}
use Rattle.std.proofs.lemmas.List.{drop_more, drop_all}
use Rattle.scp_vote.specs.scp_envelope.specs.Ballots.{value_cmp}
use Rattle.scp_vote.specs.declared.claim.Claim.TheVariants.{Nominated}
use Rattle.scp_vote.specs.Board.{Seen, Accepted}
use Rattle.std.specs.declared.cmp.Ordering.{Ordering}
use Rattle.std.specs.declared.cmp.Ordering.TheVariants.{Less, Equal, Greater}
use Rattle.std.proofs.lemmas.Cmp.{nat_list_cmp_total, tied_itself}
use Rattle.std.proofs.lemmas.Map.Lookups.{exact_bytes}
use Rattle.scp_nominate.specs.declared.values.ValueSet.{ValueSet}
use Rattle.scp_nominate.specs.declared.lists.Lists.{Lists}
use Rattle.scp_nominate.specs.Values.{Has}
use Rattle.scp_nominate.specs.inside.Values.{Adds}
use Rattle.scp_nominate.specs.inside.Steps.{HasRoom}
use Rattle.scp_nominate.specs.Steps.{own_lists}
use Rattle.scp_nominate.specs.InTurn.{InTurn}
use Rattle.scp_nominate.specs.Places.{Joins, HasPlace, VotesOne, VotesSome}
use Rattle.scp_nominate.specs.Taking.{TakesOne}

module _ {A S : Type 0} (does : A → S → S → Type 0) (xs : List A) (i : ℕ) where
  -- what the rest comes to from here, all come to from the first
  abbrev pub GoesOn : S → S → Type 0
  GoesOn first now = (t : S) → InTurn does (drop i xs) now t → InTurn does xs first t

  pub goes_all : length xs ≤ i → (first now : S) → GoesOn first now → InTurn does xs first now
  goes_all le first now goes = goes now (subst (λ ys. InTurn does ys now now) (sym (drop_all i xs le)) refl)

pub goes_first : {A S : Type 0} (does : A → S → S → Type 0) (xs : List A) (s : S) → GoesOn does xs 0 s s
goes_first does xs s t h = h

pub goes_more : {A S : Type 0} (does : A → S → S → Type 0) (xs : List A) (i : ℕ) (x : A) → i < length xs → x ≡ get_or xs i x → (first mid now : S) → GoesOn does xs i first mid → does x mid now → GoesOn does xs (i + 1) first now
goes_more does xs i x lt is first mid now goes step t rest =
    let at : does (get_or xs i x) mid now = subst (λ y. does y mid now) is step in
    goes t (subst (λ ys. InTurn does ys mid t) (sym (drop_more xs i x lt)) (now, at, rest))

-- one value
pub joins_added : (x y : ValueSet) (v : List ℕ) → Adds x y v → Joins v x.values.items y.values.items
joins_added x y v (inl same) = record {
  ascends = y.ascending;
  holds = λ w. (
    λ h. inl (subst (λ z. Has z w) same.0 h),
    λ h. elim h [ inl had ↦ subst (λ z. Has z w) (sym same.0) had | inr e ↦ subst (λ u. Has y u) e (subst (λ z. Has z v) (sym same.0) same.1) ],
  );
}
joins_added x y v (inr a) = record { ascends = y.ascending; holds = λ w. (λ h. a.only w h, λ h. elim h [ inl had ↦ a.keeps w had | inr e ↦ subst (λ u. Has y u) e a.has ]) }

joins_same : (x : ValueSet) (v : List ℕ) → Has x v → Joins v x.values.items x.values.items
joins_same x v had = record { ascends = x.ascending; holds = λ w. (λ h. inl h, λ h. elim h [ inl k ↦ k | inr e ↦ subst (λ u. Has x u) e had ]) }

pub votes_had : (x : ValueSet) (v : List ℕ) → Has x v → VotesOne v x.values.items x.values.items
votes_had x v had = inl (inl had, joins_same x v had)

values_by : (v w : List ℕ) (o : Ordering) → value_cmp v w ≡ o → (v ≡ w) ⊎ (v ≢ w)
values_by v w Less e = inr (λ s. let k : Less ≡ Equal = sym e ∙ ap (value_cmp v) (sym s) ∙ tied_itself nat_list_cmp_total v in cc)
values_by v w Equal e = inl (exact_bytes v w e)
values_by v w Greater e = inr (λ s. let k : Greater ≡ Equal = sym e ∙ ap (value_cmp v) (sym s) ∙ tied_itself nat_list_cmp_total v in cc)

other : (y : List ℕ) (ys : List (List ℕ)) (v : List ℕ) → (Contains ys v → ⊥) → y ≢ v → Contains (y ∷ ys) v → ⊥
other y ys v none differ (zero, lt, e) = differ e
other y ys v none differ (suc k, lt, e) = none (k, omega arith, e)

held_in : (xs : List (List ℕ)) (v : List ℕ) → Contains xs v ⊎ (Contains xs v → ⊥)
held_in [] v = inr (λ h. absurd (omega (arith, h.1)))
held_in (y ∷ ys) v = elim (held_in ys v) [
  | inl h ↦ inl (suc h.0, omega (arith, h.1), h.2)
  | inr none ↦ elim (values_by y v (value_cmp y v) refl) [ inl e ↦ inl (0, omega arith, e) | inr differ ↦ inr (λ h. other y ys v none differ h) ]
]

pub votes_full : (x : ValueSet) (v : List ℕ) → 7 ≤ length x.values.items → VotesOne v x.values.items x.values.items
votes_full x v full = elim (held_in x.values.items v) [
  | inl had ↦ votes_had x v had
  | inr none ↦ inr ((λ place. elim place [ inl had ↦ none had | inr room ↦ absurd (omega (arith, room, full)) ]), refl)
]

pub votes_added : (x y : ValueSet) (v : List ℕ) → length x.values.items < 7 → Adds x y v → VotesOne v x.values.items y.values.items
votes_added x y v room adds = inl (inr room, joins_added x y v adds)

-- with a place, it is voted for
pub place_joins : (v : List ℕ) (old new : List (List ℕ)) → HasPlace old v → VotesOne v old new → Joins v old new
place_joins v old new place (inl h) = h.1
place_joins v old new place (inr h) = absurd (h.0 place)

pub votes_some : (o : Option (List ℕ)) (v : List ℕ) (old new : List (List ℕ)) → o ≡ Some v → VotesOne v old new → VotesSome o old new
votes_some o v old new e h = subst (λ o. VotesSome o old new) (sym e) h

pub votes_none : (o : Option (List ℕ)) (old : List (List ℕ)) → o ≡ None → VotesSome o old old
votes_none o old e = subst (λ o. VotesSome o old old) (sym e) refl

-- one value that may be accepted
pub takes_had : (b : Seen) (s : Lists) (v : List ℕ) → Has s.accepted v → TakesOne b v (own_lists s) (own_lists s)
takes_had b s v had = inr (inl had, refl)

pub takes_not : (b : Seen) (s : Lists) (v : List ℕ) → (HasRoom s.votes v × Accepted b (Nominated v) → ⊥) → TakesOne b v (own_lists s) (own_lists s)
takes_not b s v not = inr (inr not, refl)

pub takes_new : (b : Seen) (s : Lists) (votes accepted : ValueSet) (v : List ℕ) → (Has s.accepted v → ⊥) → HasRoom s.votes v → Accepted b (Nominated v) → VotesOne v s.votes.values.items votes.values.items → Adds s.accepted accepted v
    → TakesOne b v (own_lists s) (own_lists (record s { votes = votes; accepted = accepted }))
takes_new b s votes accepted v fresh room acc voted adds =
    inl ((fresh, (room, acc)), record { votes = place_joins v s.votes.values.items votes.values.items room voted; accepted = joins_added s.accepted accepted v adds; candidates = refl })
