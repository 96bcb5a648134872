-- What is known of the fully validated values on the board.
use Rattle.std.proofs.Common.{◌≡◌, ◌+◌, ◌<◌, ◌≤◌, ℕ, List, [], length, get_or, sym, ◌∙◌, ap, subst, ◌⊎◌, inl, inr, arith, Contains}
use Rattle.std.proofs.lemmas.Bool.{cases_lt}
use Rattle.std.proofs.lemmas.List.{get_or_default}
use Rattle.scp_nominate.specs.declared.values.ValueSet.{ValueSet}
use Rattle.scp_nominate.specs.Values.{Has}
use Rattle.scp_nominate.specs.inside.Steps.{More, Learns}
use Rattle.scp_nominate.proofs.Growing.{more_has}

pub learns_none : (full : List ℕ → Type 0) (v : List ℕ) (x : ValueSet) → ¬ (full v) → Learns full (λ w. v ≡ w) x x
learns_none full v x not = record { keeps = λ w h. h; learnt = λ w e f. absurd (not (subst full (sym e) f)); only = λ w h. inl h }

pub learns_one : (full : List ℕ → Type 0) (v : List ℕ) (x y : ValueSet) → full v → More x y → Has y v → ((w : List ℕ) → Has y w → Has x w ⊎ (v ≡ w)) → Learns full (λ w. v ≡ w) x y
learns_one full v x y f more has only = record {
  keeps = λ w h. more_has x y w more h;
  learnt = λ w e g. subst (λ u. Has y u) e has;
  only = λ w h. elim (only w h) [ inl had ↦ inl had | inr e ↦ inr (subst full e f) ];
}

-- of the values before a place
pub learns_start : (full : List ℕ → Type 0) (vs : List (List ℕ)) (x : ValueSet) → Learns full (λ w. (k : ℕ) × (k < 0) × (get_or vs k [] ≡ w)) x x
learns_start full vs x = record { keeps = λ w h. h; learnt = λ w e f. absurd (omega (arith, e.1)); only = λ w h. inl h }

pub learns_more : (full : List ℕ → Type 0) (vs : List (List ℕ)) (i : ℕ) (v : List ℕ) → i < length vs → v ≡ get_or vs i v → (x y z : ValueSet)
    → Learns full (λ w. (k : ℕ) × (k < i) × (get_or vs k [] ≡ w)) x y → Learns full (λ w. v ≡ w) y z → Learns full (λ w. (k : ℕ) × (k < i + 1) × (get_or vs k [] ≡ w)) x z
learns_more full vs i v lt is x y z before one = record {
  keeps = λ w h. one.keeps w (before.keeps w h);
  learnt = λ w e f. elim (last e.0 e.1) [
    | inl l ↦ one.keeps w (before.learnt w (e.0, l, e.2) f)
    | inr same ↦ one.learnt w (is ∙ get_or_default vs i v [] lt ∙ ap (λ j. get_or vs j []) (sym same) ∙ e.2) f
  ];
  only = λ w h. elim (one.only w h) [ inl had ↦ before.only w had | inr f ↦ inr f ];
}
  where
    last : (k : ℕ) → k < i + 1 → (k < i) ⊎ (k ≡ i)
    last k l = elim (cases_lt k i) [ inl lt ↦ inl lt | inr ge ↦ inr (omega arith) ]

pub learns_all : (full : List ℕ → Type 0) (vs : List (List ℕ)) (i : ℕ) (x y : ValueSet) → length vs ≤ i → Learns full (λ w. (k : ℕ) × (k < i) × (get_or vs k [] ≡ w)) x y → Learns full (λ w. Contains vs w) x y
learns_all full vs i x y le all = record {
  keeps = all.keeps;
  learnt = λ w has f. all.learnt w (has.0, omega (arith, has.1, le), get_or_default vs has.0 [] w has.1 ∙ has.2) f;
  only = all.only;
}
