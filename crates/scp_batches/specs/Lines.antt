-- The lines of an input, and what is given of them (this project's profile).
use Rattle.std.specs.Prelude.{◌≡◌, ◌<◌, ◌+◌, ℕ, List, [], ◌∷◌, ◌++◌, length, take, map, flat_map, Option}
use Rattle.std.specs.List.{AllByRecursion}
use Rattle.scp_live_log.specs.scp_device.specs.Device.{Loses}
use Rattle.scp_live_log.specs.Log.{IsLine}
use Rattle.scp_batches.specs.declared.line.TheConstants.{LINE_LIMIT}

-- A text is these lines, each with its line end, followed by a rest without a line end.
pub record IsSplit (text : List ℕ) (lines : List (List ℕ)) (rest : List ℕ) : Type 0 where
  pub whole : text ≡ flat_map (λ line. line ++ 10 ∷ []) lines ++ rest
  pub each : AllByRecursion IsLine lines
  pub last : IsLine rest

-- The part of a line that is kept: all of it, or at most one byte more than the limit.
abbrev pub front_of : List ℕ → List ℕ
front_of line = take (LINE_LIMIT + 1) line

-- For each line of a text its front was given, and the front of the rest is held.
pub record Gives (text : List ℕ) (given : List (List ℕ)) (held : List ℕ) : Type 0 where
  pub lines : List (List ℕ)
  pub rest : List ℕ
  pub split : IsSplit text lines rest
  pub fronts : given ≡ map front_of lines
  pub front : held ≡ front_of rest

-- Take any text for which `given` was given and `old` is held. With these bytes after it, `more` is given too, and `new` is held.
abbrev pub GivesMore : List ℕ → List ℕ → List (List ℕ) → List ℕ → Type 0
GivesMore old bytes more new = (text : List ℕ) (given : List (List ℕ)) → Gives text given old → Gives (text ++ bytes) (given ++ more) new

-- A read took at least one byte from the front of what was left, and gave exactly these further lines.
pub record IsRead (left : Option (List ℕ)) (old : List ℕ) (more : List (List ℕ)) (new : List ℕ) (rest : Option (List ℕ)) : Type 0 where
  pub bytes : List ℕ
  pub some : 0 < length bytes
  pub read : Loses left bytes rest
  pub gives : GivesMore old bytes more new

-- A text can be split into lines and a rest in only one way.
abbrev pub IsSplitInOneWay : Type 0
IsSplitInOneWay = (text : List ℕ) (lines others : List (List ℕ)) (rest other : List ℕ) → IsSplit text lines rest → IsSplit text others other → (lines ≡ others) × (rest ≡ other)
