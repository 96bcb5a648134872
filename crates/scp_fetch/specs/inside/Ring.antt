-- How the store's others are kept in memory: in a ring, from the place of the one that was stored first. Contracts of
-- public calls don't speak of it.
-- No public clause reaches these definitions: nothing here need be believed.
use Rattle.std.specs.Prelude.{ℕ, ◌+◌, ◌≡◌, ◌<◌, ◌≤◌, List, ◌++◌, [], ◌∷◌, take, drop, length, nat_lt, nat_eq, if◌then◌else◌}
use Rattle.scp_quorum.specs.QuorumTree.{QuorumTree}
use Rattle.scp_quorum.specs.QuorumKind.{set_hash}
use Rattle.scp_quorum.specs.SharedSet.{SharedSet}

-- a hash, and the set that is kept under it
abbrev pub Entry : Type 0
Entry = List ℕ × SharedSet

abbrev pub set_at : Entry → QuorumTree
set_at e = e.1.value

abbrev pub IsUnderItsHash : Entry → Type 0
IsUnderItsHash e = e.0 ≡ set_hash e.1.value

-- the entries from this place on, and then those before it
abbrev pub turned : ℕ → List Entry → List Entry
turned first es = drop first es ++ take first es

-- one more comes last while there is room; else it takes the first one's place, and the next is then the first
abbrev pub placed : ℕ → Entry → List Entry → List Entry
placed first x es = if nat_lt (length es) 256 then es ++ x ∷ [] else take first es ++ x ∷ drop (first + 1) es

abbrev pub next_first : ℕ → List Entry → ℕ
next_first first es = if nat_lt (length es) 256 then first else (if nat_eq (first + 1) 256 then 0 else first + 1)

-- where a ring has its first entry, and how long it is
pub record IsRing (first : ℕ) (es : List Entry) : Type 0 where
  pub within : length es ≤ 256
  pub first_within : first < 256
  pub from_start : length es < 256 → first ≡ 0
