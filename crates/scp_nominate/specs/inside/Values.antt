-- Values that ascend by bytes.
-- No public clause reaches these definitions: nothing here need be believed.
use Rattle.std.specs.Prelude.{◌≡◌, ◌+◌, ◌≤◌, ℕ, ◌⊎◌, List, length}
use Rattle.std.specs.List.{AllWithin}
use Rattle.std.specs.declared.cmp.Ordering.TheVariants.{Less, Greater}
use Rattle.scp_vote.specs.scp_envelope.specs.Ballots.{value_cmp}
use Rattle.scp_nominate.specs.declared.values.ValueSet.{ValueSet}
use Rattle.scp_nominate.specs.Values.{Has}

abbrev pub items : ValueSet → List (List ℕ)
items s = s.values.items

-- the values before the place are less than v, and the others are greater
pub record IsGap (s : ValueSet) (v : List ℕ) (at : ℕ) : Type 0 where
  pub within : at ≤ length s.values.items
  pub below : AllWithin (λ w. value_cmp w v ≡ Less) s.values.items 0 at
  pub above : AllWithin (λ w. value_cmp w v ≡ Greater) s.values.items at (length s.values.items)

-- v is added, and it wasn't there
pub record AddsNew (old new : ValueSet) (v : List ℕ) : Type 0 where
  pub fresh : ¬ (Has old v)
  pub longer : length new.values.items ≡ length old.values.items + 1
  pub keeps : (w : List ℕ) → Has old w → Has new w
  pub has : Has new v
  pub only : (w : List ℕ) → Has new w → Has old w ⊎ (v ≡ w)

-- v is there, and nothing else is new
abbrev pub Adds : ValueSet → ValueSet → List ℕ → Type 0
Adds old new v = ((new ≡ old) × Has old v) ⊎ AddsNew old new v
