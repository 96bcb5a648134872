-- What is held of a line, and the index where a line ends.
use Rattle.std.specs.Prelude.{◌≡◌, ◌≤◌, ◌<◌, ◌+◌, ◌++◌, ◌∷◌, ℕ, List, length, take, drop}
use Rattle.scp_live_log.specs.Log.{IsLine}
use Rattle.scp_batches.specs.declared.line.TheConstants.{LINE_LIMIT}

-- These bytes are held of a line that hasn't ended: at most one byte more than the limit.
pub record IsHeld (held : List ℕ) : Type 0 where
  pub line : IsLine held
  pub few : length held ≤ LINE_LIMIT + 1

-- The first line ends at this index.
pub record EndsAt (n : ℕ) (bytes : List ℕ) : Type 0 where
  pub within : n < length bytes
  pub line : IsLine (take n bytes)
  pub splits : bytes ≡ take n bytes ++ 10 ∷ drop (n + 1) bytes
