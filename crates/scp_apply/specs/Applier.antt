-- What clients see of an applier, and what it does with each thing that it takes.
use Rattle.std.specs.Prelude.{ℕ, ◌+◌, ◌<◌, ◌≤◌, ◌≡◌, Bool, false, List, [], ◌∷◌, ◌++◌, Option, None, All, length, option_map}
use Rattle.std.specs.List.Sorted.{IsPermutation}
use Rattle.scp_ledger.specs.scp_types.specs.declared.limits.TheConstants.{WINDOW}
use Rattle.scp_ledger.specs.scp_wire.specs.declared.message.Message.{Message}
use Rattle.scp_ledger.specs.scp_wire.specs.declared.message.Message.TheVariants.{Record}
use Rattle.scp_ledger.specs.declared.journal.Decision.{Decision}
use Rattle.scp_ledger.specs.declared.took.Onward.{Onward}
use Rattle.scp_ledger.specs.declared.took.Onward.TheVariants.{Decided, Asked}
use Rattle.scp_ledger.specs.Decisions.{is_decided, OnePerSlot}
use Rattle.scp_apply.specs.Applied.{AreInOrder, value_of}

-- what contracts see of an applier; the state isn't part of it, since it is what the applied values make of the one that it began with
pub record ApplierView : Type 0 where
  pub first : ℕ  -- the slot that it began with
  pub base : List ℕ  -- the bytes of the state that it began with; none for the application's first one
  pub failed : Bool
  pub applied : List Decision
  pub buffer : List Decision  -- what was taken and isn't applied yet

-- the slot that is applied next
abbrev pub next_of : ApplierView → ℕ
next_of v = v.first + length v.applied

-- the slots from the first on are applied, in order; failed or not
pub record IsApplier (v : ApplierView) : Type 0 where
  pub in_order : AreInOrder v.first v.applied

-- the slot is one of the 16 from the next on, but isn't the next
pub record IsLater (next slot : ℕ) : Type 0 where
  pub later : next < slot
  pub near : slot < next + WINDOW

-- only the 15 slots after the next are buffered, and no slot twice
pub record IsRunning (v : ApplierView) : Type 0 where
  pub in_window : All (λ d. IsLater (next_of v) d.slot.0) v.buffer
  pub one : OnePerSlot v.buffer
  pub few : length v.buffer ≤ WINDOW

-- a slot whose decision can be taken: one of the 16 from the next on, which isn't buffered
pub record IsInWindow (v : ApplierView) (slot : ℕ) : Type 0 where
  pub from : next_of v ≤ slot
  pub near : slot < next_of v + WINDOW
  pub fresh : is_decided slot v.buffer ≡ false

-- what the caller may give: a decision for one of the 16 slots from the next on that isn't buffered, or any request for a record
abbrev pub CanTake : ApplierView → Onward → Type 0
CanTake v (Decided d) = IsInWindow v d.slot.0
CanTake v (Asked link slot) = Unit {0}

-- The decision is buffered, and what is next is applied, from the same beginning on. What was applied or buffered, with it, is
-- applied or buffered now.
pub record Applies (old : ApplierView) (d : Decision) (new : ApplierView) : Type 0 where
  pub first : new.first ≡ old.first
  pub base : new.base ≡ old.base
  pub runs : new.failed ≡ false
  pub shared_out : IsPermutation (old.applied ++ (old.buffer ++ d ∷ [])) (new.applied ++ new.buffer)
  pub more : List Decision
  pub grows : new.applied ≡ old.applied ++ more

-- a decision has no answer; a request for a slot's record is answered if the slot is applied, and changes nothing
abbrev pub Takes : ApplierView → Onward → Option (ℕ × Message) → ApplierView → Type 0
Takes old (Decided d) answer new = (answer ≡ None) × Applies old d new
Takes old (Asked link slot) answer new = (answer ≡ option_map (λ value. (link, Record slot value)) (value_of slot.0 old.applied)) × (new ≡ old)
