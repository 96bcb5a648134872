-- The places of contradictions, one after another.
use Rattle.std.proofs.Common.{◌≡◌, ◌⊎◌, ◌+◌, ◌<◌, ◌≤◌, ℕ, zero, suc, List, [], ◌∷◌, ◌++◌, length, map, get_or, sym, ap, subst, ◌∙◌, inl, inr, arith}
use Rattle.std.specs.Prelude.{◌↔◌, Contains, Option, Some, None, IsSomeAnd, slice_get}
use Rattle.std.proofs.lemmas.Bool.{cases_lt}
use Rattle.std.proofs.lemmas.List.Elements.{Contains-append_left, Contains-push, Contains-push_cases}
use Rattle.scp_ledger.specs.scp_envelope.specs.declared.statement.Statement.{Statement}
use Rattle.scp_judged.specs.declared.messages.Message.{Message}
use Rattle.scp_judged.specs.Contradicts.{Contradict, ContradictAt}
use Rattle.scp_judged.specs.inside.Adding.{AddsWhere}

abbrev pub Place : Type 0
Place = ℕ × ℕ

abbrev place : ℕ → ℕ → Place
place i j = (i, j)

-- the places that are found before the first k of one row
abbrev pub RowFound : List Place → (ℕ → ℕ → Type 0) → ℕ → ℕ → List Place → Type 0
RowFound before P at k found = (i j : ℕ) → Contains found (i, j) ↔ (Contains before (i, j) ⊎ ((j ≡ at) × (i < k) × P i j))

pub row_none : (before : List Place) (P : ℕ → ℕ → Type 0) (at : ℕ) → RowFound before P at 0 before
row_none before P at = λ i j. (λ c. inl c, λ h. elim h as (λ _. Contains before (i, j)) [ inl c ↦ c | inr t ↦ absurd (omega (arith, t.1)) ])

pub row_no : (before found : List Place) (P : ℕ → ℕ → Type 0) (at k : ℕ) → (P k at → ⊥) → RowFound before P at k found → RowFound before P at (k + 1) found
row_no before found P at k isnt inv = λ i j. (
  λ c. elim ((inv i j).0 c) as (λ _. Contains before (i, j) ⊎ ((j ≡ at) × (i < k + 1) × P i j)) [ inl b ↦ inl b | inr t ↦ inr (t.0, omega (arith, t.1), t.2) ],
  λ h. elim h as (λ _. Contains found (i, j)) [
    | inl b ↦ (inv i j).1 (inl b)
    | inr t ↦ (elim (cases_lt i k) as (λ _. Contains found (i, j)) [
      | inl lt ↦ (inv i j).1 (inr (t.0, lt, t.2))
      | inr ge ↦ (let e : i ≡ k = omega (arith, ge, t.1) in absurd (isnt (subst (λ (n : ℕ). P k n) t.0 (subst (λ (n : ℕ). P n j) e t.2))))
    ])
  ],
)

pub row_yes : (before found : List Place) (P : ℕ → ℕ → Type 0) (at k : ℕ) → P k at → RowFound before P at k found → RowFound before P at (k + 1) (found ++ (k, at) ∷ [])
row_yes before found P at k holds inv = λ i j. (
  λ c. elim (Contains-push_cases found (k, at) (i, j) c) as (λ _. Contains before (i, j) ⊎ ((j ≡ at) × (i < k + 1) × P i j)) [
    | inl old ↦ (elim ((inv i j).0 old) as (λ _. Contains before (i, j) ⊎ ((j ≡ at) × (i < k + 1) × P i j)) [ inl b ↦ inl b | inr t ↦ inr (t.0, omega (arith, t.1), t.2) ])
    | inr e ↦ (
        let first : k ≡ i = ap (λ (p : Place). p.0) e in
        let second : at ≡ j = ap (λ (p : Place). p.1) e in
        inr (sym second, omega (arith, first), subst (λ (n : ℕ). P i n) second (subst (λ (n : ℕ). P n at) first holds)))
  ],
  λ h. elim h as (λ _. Contains (found ++ (k, at) ∷ []) (i, j)) [
    | inl b ↦ Contains-append_left found ((k, at) ∷ []) (i, j) ((inv i j).1 (inl b))
    | inr t ↦ (elim (cases_lt i k) as (λ _. Contains (found ++ (k, at) ∷ []) (i, j)) [
      | inl lt ↦ Contains-append_left found ((k, at) ∷ []) (i, j) ((inv i j).1 (inr (t.0, lt, t.2)))
      | inr ge ↦ (
          let first : k ≡ i = omega (arith, ge, t.1) in
          let e : place k at ≡ place i j = ap (λ (n : ℕ). place n at) first ∙ ap (λ (n : ℕ). place i n) (sym t.0) in
          subst (λ (p : Place). Contains (found ++ (k, at) ∷ []) p) e (Contains-push found (k, at)))
    ])
  ],
)

-- a row is done
pub row_done : (before found : List Place) (P : ℕ → ℕ → Type 0) (at k : ℕ) → ((i j : ℕ) → j ≡ at → P i j → i < k) → RowFound before P at k found → (i j : ℕ) → Contains found (i, j) ↔ (Contains before (i, j) ⊎ ((j ≡ at) × P i j))
row_done before found P at k within inv = λ i j. (
  λ c. elim ((inv i j).0 c) as (λ _. Contains before (i, j) ⊎ ((j ≡ at) × P i j)) [ inl b ↦ inl b | inr t ↦ inr (t.0, t.2) ],
  λ h. elim h as (λ _. Contains found (i, j)) [ inl b ↦ (inv i j).1 (inl b) | inr t ↦ (inv i j).1 (inr (t.0, within i j t.0 t.1, t.1)) ],
)

-- ---- row after row

abbrev pub RowsFound : (ℕ → ℕ → Type 0) → ℕ → List Place → Type 0
RowsFound P at found = (i j : ℕ) → Contains found (i, j) ↔ ((j < at) × P i j)

pub rows_none : (P : ℕ → ℕ → Type 0) → RowsFound P 0 []
rows_none P = λ i j. (λ c. absurd (omega (arith, c.1)), λ h. absurd (omega (arith, h.0)))

pub rows_more : (P : ℕ → ℕ → Type 0) (at : ℕ) (old new : List Place) → RowsFound P at old → ((i j : ℕ) → Contains new (i, j) ↔ (Contains old (i, j) ⊎ ((j ≡ at) × P i j))) → RowsFound P (at + 1) new
rows_more P at old new inv row = λ i j. (
  λ c. elim ((row i j).0 c) as (λ _. (j < at + 1) × P i j) [
    | inl o ↦ (let h = (inv i j).0 o in (omega (arith, h.0), h.1))
    | inr t ↦ (omega (arith, t.0), t.1)
  ],
  λ h. elim (cases_lt j at) as (λ _. Contains new (i, j)) [
    | inl lt ↦ (row i j).1 (inl ((inv i j).1 (lt, h.1)))
    | inr ge ↦ (row i j).1 (inr (omega (arith, ge, h.0), h.1))
  ],
)

pub rows_done : (P : ℕ → ℕ → Type 0) (at : ℕ) (found : List Place) → ((i j : ℕ) → P i j → j < at) → RowsFound P at found → (i j : ℕ) → Contains found (i, j) ↔ P i j
rows_done P at found within inv = λ i j. (λ c. ((inv i j).0 c).1, λ p. (inv i j).1 (within i j p, p))

-- ---- places in the list of messages

abbrev pub said : Message → Statement
said m = m.envelope.statement

pub said_at : (ms : List Message) (i : ℕ) (m : Message) → i < length ms → m ≡ get_or ms i m → slice_get (map said ms) i ≡ Some (said m)
said_at [] i m lt e = absurd (omega (arith, lt))
said_at (x ∷ xs) zero m lt e = ap (λ (k : Message). Some (said k)) (sym e)
said_at (x ∷ xs) (suc i) m lt e = said_at xs i m (omega (arith, lt)) e

pub said_within : (ms : List Message) (j : ℕ) (Q : Statement → Type 0) → IsSomeAnd (slice_get (map said ms) j) Q → j < length ms
said_within [] j Q h = absurd h
said_within (x ∷ xs) zero Q h = omega arith
said_within (x ∷ xs) (suc j) Q h = (let lt = said_within xs j Q h in omega (arith, lt))

pub place_within : (ms : List Message) (i j : ℕ) → ContradictAt (map said ms) i j → j < length ms
place_within ms i j h = inner (slice_get (map said ms) i) h.1
  where
    inner : (o : Option Statement) → IsSomeAnd o (λ s. IsSomeAnd (slice_get (map said ms) j) (λ t. Contradict s t)) → j < length ms
    inner None p = absurd p
    inner (Some s) p = said_within ms j (λ t. Contradict s t) p

pub place_is : (ms : List Message) (i j : ℕ) (m n : Message) → slice_get (map said ms) i ≡ Some (said m) → slice_get (map said ms) j ≡ Some (said n) → i < j → Contradict (said m) (said n) → ContradictAt (map said ms) i j
place_is ms i j m n p q lt h = (
  lt,
  subst (λ (o : Option Statement). IsSomeAnd o (λ s. IsSomeAnd (slice_get (map said ms) j) (λ t. Contradict s t))) (sym p)
      (subst (λ (o : Option Statement). IsSomeAnd o (λ t. Contradict (said m) t)) (sym q) h),
)

pub place_shows : (ms : List Message) (i j : ℕ) (m n : Message) → slice_get (map said ms) i ≡ Some (said m) → slice_get (map said ms) j ≡ Some (said n) → ContradictAt (map said ms) i j → Contradict (said m) (said n)
place_shows ms i j m n p q h =
    let one : IsSomeAnd (slice_get (map said ms) j) (λ t. Contradict (said m) t) = subst (λ (o : Option Statement). IsSomeAnd o (λ s. IsSomeAnd (slice_get (map said ms) j) (λ t. Contradict s t))) p h.1 in
    subst (λ (o : Option Statement). IsSomeAnd o (λ t. Contradict (said m) t)) q one

-- ---- one place more

row_same : (before found new : List Place) (P : ℕ → ℕ → Type 0) (at k : ℕ) → new ≡ found → RowFound before P at k found → RowFound before P at k new
row_same before found new P at k e inv = subst (λ (l : List Place). RowFound before P at k l) (sym e) inv

pub row_step : (ms : List Message) (before found new : List Place) (at k : ℕ) (m n : Message) → k < at → at < length ms → m ≡ get_or ms k m → n ≡ get_or ms at n
    → AddsWhere (Contradict (said m) (said n)) found new (k, at) → RowFound before (ContradictAt (map said ms)) at k found → RowFound before (ContradictAt (map said ms)) at (k + 1) new
row_step ms before found new at k m n lt within p q (inl h) inv =
    let first : slice_get (map said ms) k ≡ Some (said m) = said_at ms k m (omega (arith, lt, within)) p in
    let second : slice_get (map said ms) at ≡ Some (said n) = said_at ms at n within q in
    row_same before (found ++ (k, at) ∷ []) new (ContradictAt (map said ms)) at (k + 1) h.1
    (row_yes before found (ContradictAt (map said ms)) at k (place_is ms k at m n first second lt h.0) inv)
row_step ms before found new at k m n lt within p q (inr h) inv =
    let first : slice_get (map said ms) k ≡ Some (said m) = said_at ms k m (omega (arith, lt, within)) p in
    let second : slice_get (map said ms) at ≡ Some (said n) = said_at ms at n within q in
    row_same before found new (ContradictAt (map said ms)) at (k + 1) h.1
    (row_no before found (ContradictAt (map said ms)) at k (λ c. h.0 (place_shows ms k at m n first second c)) inv)

-- all places before this one were tried
pub row_all : (ms : List Message) (before found : List Place) (at k : ℕ) → at ≤ k → RowFound before (ContradictAt (map said ms)) at k found → (i j : ℕ) → Contains found (i, j) ↔ (Contains before (i, j) ⊎ ((j ≡ at) × ContradictAt (map said ms) i j))
row_all ms before found at k le inv = row_done before found (ContradictAt (map said ms)) at k (λ i j e p. (let lt = p.0 in omega (arith, lt, e, le))) inv
