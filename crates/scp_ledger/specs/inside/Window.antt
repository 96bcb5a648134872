-- Which slots are open, as a ledger finds them; nothing here need be believed.
use Rattle.std.specs.Prelude.{ℕ, ◌<◌, ◌≤◌, ◌≡◌, Bool, true, List}
use Rattle.std.specs.BTreeSet as tree_set
use Rattle.std.specs.Ordering.{nat_cmp}
use Rattle.scp_ledger.specs.declared.journal.Decision.{Decision}
use Rattle.scp_ledger.specs.declared.window.Window.{Window}
use Rattle.scp_ledger.specs.Decisions.{is_decided, IsLowest}

abbrev pub is_ahead : Window → ℕ → Bool
is_ahead w slot = tree_set.contains nat_cmp w.ahead slot

-- no slot above the last possible one is in it
pub record IsBounded (w : Window) : Type 0 where
  pub low : w.lowest ≤ 4294967296
  pub last : (slot : ℕ) → is_ahead w slot ≡ true → slot ≤ 4294967295

-- the lowest slot from the first on without a decision, and which slots from it on have one
pub record IsWindow (first : ℕ) (decisions : List Decision) (w : Window) : Type 0 where
  pub lowest : IsLowest first decisions w.lowest
  pub ahead : (slot : ℕ) → w.lowest ≤ slot → is_ahead w slot ≡ is_decided slot decisions
  pub bounded : IsBounded w

-- the window moved past slots that have a decision
pub record Passes (old new : Window) : Type 0 where
  pub from : old.lowest ≤ new.lowest
  pub passed : (slot : ℕ) → old.lowest ≤ slot → slot < new.lowest → is_ahead old slot ≡ true
  pub ahead : (slot : ℕ) → new.lowest ≤ slot → is_ahead new slot ≡ is_ahead old slot
  pub bounded : IsBounded new
