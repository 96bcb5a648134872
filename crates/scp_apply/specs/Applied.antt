-- Decisions in the order of their slots.
use Rattle.std.specs.Prelude.{ℕ, ◌+◌, ◌≡◌, List, [], ◌∷◌, Option, Some, None, if◌then◌else◌, map, fold}
use Rattle.scp_ledger.specs.declared.journal.Decision.{Decision}
use Rattle.scp_ledger.specs.Decisions.{is_at}

-- the decisions are those of the slots from this one on, without a gap
abbrev pub AreInOrder : ℕ → List Decision → Type 0
AreInOrder slot [] = Unit {0}
AreInOrder slot (d ∷ ds) = (d.slot.0 ≡ slot) × AreInOrder (slot + 1) ds

-- the values of decisions, in order
abbrev pub values_of : List Decision → List (List ℕ)
values_of decisions = map (λ d. d.value) decisions

-- the state that decisions make from a first one on: the value of each makes it of the state before it
abbrev pub made_of : {S : Type 0} → S → (S → List ℕ → S) → List Decision → S
made_of first after' decisions = fold after' first (values_of decisions)

-- the value of a slot, if it is among these
abbrev pub value_of : ℕ → List Decision → Option (List ℕ)
value_of slot [] = None
value_of slot (d ∷ ds) = if is_at slot d then Some d.value else value_of slot ds
