-- The file `applied`: what ended epochs applied (this project's profile).
use Rattle.std.specs.Prelude.{◌≡◌, ◌<◌, ◌≤◌, ◌+◌, ℕ, suc, List, [], ◌∷◌, ◌++◌, length}
use Rattle.std.specs.List.{AllByRecursion}
use Rattle.std.specs.Fmt.{decimal}
use Rattle.hex.specs.Hex.{encode_lower, IsBytes}
use Rattle.scp_live_head.specs.Head.{ended, NotAtFront}

-- `SLOT HEX`: a slot and its value
abbrev pub slot_line : ℕ → List ℕ → List ℕ
slot_line slot value = ended (decimal slot ++ 32 ∷ encode_lower value)

-- The lines of these values, the first of which is that of this slot.
abbrev pub lines_from : ℕ → List (List ℕ) → List ℕ
lines_from slot [] = []
lines_from slot (value ∷ values) = slot_line slot value ++ lines_from (suc slot) values

-- Of this file the lines of slots below `first` are kept: those at its front, one slot after another. Behind them the next slot has no
-- whole line, or isn't below `first`.
pub record IsKeptBelow (first : ℕ) (file kept : List ℕ) : Type 0 where
  pub slot : ℕ
  pub values : List (List ℕ)
  pub rest : List ℕ
  pub splits : file ≡ kept ++ rest
  pub lines : kept ≡ lines_from slot values
  pub are : AllByRecursion IsBytes values
  pub below : slot + length values ≤ first
  pub no_more : (value : List ℕ) → IsBytes value → slot + length values < first → NotAtFront (slot_line (slot + length values) value) rest
  pub none : values ≡ [] → (other : ℕ) (value : List ℕ) → other < first → IsBytes value → NotAtFront (slot_line other value) file
