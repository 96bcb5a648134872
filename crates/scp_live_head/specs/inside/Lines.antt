-- The lines of slots at the front of a file.
use Rattle.std.specs.Prelude.{◌≡◌, ◌<◌, ◌≤◌, ◌+◌, ℕ, List, ◌++◌, length, drop}
use Rattle.std.specs.List.{AllByRecursion}
use Rattle.hex.specs.Hex.{IsBytes}
use Rattle.scp_live_head.specs.Head.{NotAtFront}
use Rattle.scp_live_head.specs.Applied.{slot_line, lines_from}

-- The first `size` bytes are the lines of slots from this one on and below `first`. No further one follows.
pub record IsFrom (slot first : ℕ) (file : List ℕ) (size : ℕ) : Type 0 where
  pub values : List (List ℕ)
  pub splits : file ≡ lines_from slot values ++ drop size file
  pub long : length (lines_from slot values) ≡ size
  pub are : AllByRecursion IsBytes values
  pub below : slot + length values ≤ first
  pub no_more : slot + length values < first → (value : List ℕ) → IsBytes value → NotAtFront (slot_line (slot + length values) value) (drop size file)
