-- What an applier keeps; nothing here need be believed.
use Rattle.std.specs.Prelude.{ℕ, ◌+◌, ◌<◌, ◌≤◌, ◌≡◌, ◌≢◌, Bool, false, List, [], ◌∷◌, ◌++◌, All, length, remove, slice_index_or}
use Rattle.std.specs.List.Sorted.{IsPermutation}
use Rattle.scp_ledger.specs.scp_types.specs.declared.limits.TheConstants.{WINDOW}
use Rattle.scp_ledger.specs.declared.journal.Decision.{Decision}
use Rattle.scp_ledger.specs.Decisions.{OnePerSlot}
use Rattle.scp_apply.specs.declared.slots.Slots.{Slots}
use Rattle.scp_apply.specs.declared.applier.Applier.TheInside as applier
use Rattle.scp_apply.specs.Applied.{AreInOrder, made_of}
use Rattle.scp_apply.specs.Applier.{ApplierView}

-- the slot that is applied next
abbrev pub next_in : Slots → ℕ
next_in s = s.before + 1 + length s.applied.items

-- the slots from the first on are applied in order; what is buffered is of the 16 slots from the next on, no slot twice
pub record IsApplied (s : Slots) : Type 0 where
  pub in_order : AreInOrder (s.before + 1) s.applied.items
  pub above : All (λ d. next_in s ≤ d.slot.0) s.buffer.items
  pub near : All (λ d. d.slot.0 < next_in s + WINDOW) s.buffer.items
  pub one : OnePerSlot s.buffer.items

-- and the next slot isn't buffered
pub record IsSound (s : Slots) : Type 0 where
  pub is_applied : IsApplied s
  pub next_missing : All (λ d. d.slot.0 ≢ next_in s) s.buffer.items

-- one buffered decision was applied to the state
pub record AppliesOne {S : Type 0} (after' : S → List ℕ → S) (old : Slots) (before : S) (place : ℕ) (new : Slots) (state : S) : Type 0 where
  pub decision : Decision
  pub is : slice_index_or old.buffer.items place decision ≡ decision
  pub applied : new.applied.items ≡ old.applied.items ++ decision ∷ []
  pub buffer : new.buffer.items ≡ remove old.buffer.items place
  pub state_is : state ≡ after' before decision.value

-- some buffered decisions were applied to the state, in order
pub record Advances {S : Type 0} (after' : S → List ℕ → S) (old : Slots) (before : S) (new : Slots) (state : S) : Type 0 where
  pub sound : IsSound new
  pub shared_out : IsPermutation (old.applied.items ++ old.buffer.items) (new.applied.items ++ new.buffer.items)
  pub more : List Decision
  pub grows : new.applied.items ≡ old.applied.items ++ more
  pub state_is : state ≡ made_of before after' more

-- a decision was taken, and what is next was applied to the state
pub record Enters {S : Type 0} (after' : S → List ℕ → S) (old : Slots) (before : S) (d : Decision) (new : Slots) (state : S) : Type 0 where
  pub sound : IsSound new
  pub shared_out : IsPermutation (old.applied.items ++ (old.buffer.items ++ d ∷ [])) (new.applied.items ++ new.buffer.items)
  pub more : List Decision
  pub grows : new.applied.items ≡ old.applied.items ++ more
  pub state_is : state ≡ made_of before after' more

-- the state is what the applied values make of a first one
abbrev pub IsMade : {S : Type 0} → S → (S → List ℕ → S) → Slots → S → Type 0
IsMade first after' s state = state ≡ made_of first after' s.applied.items

abbrev pub slots_view : Bool → Slots → ApplierView
slots_view failed s = record { first = s.before + 1; base = s.base.items; failed = failed; applied = s.applied.items; buffer = s.buffer.items }

abbrev pub applier_view : {A S : Type 0} → applier.Inside A S → ApplierView
applier_view a = slots_view a.failed a.slots

pub record IsWell {A S : Type 0} (begins : List ℕ → S) (after' : S → List ℕ → S) (a : applier.Inside A S) : Type 0 where
  pub in_order : AreInOrder (a.slots.before + 1) a.slots.applied.items
  pub sound : a.failed ≡ false → IsSound a.slots
  pub made : a.failed ≡ false → IsMade (begins a.slots.base.items) after' a.slots a.state
