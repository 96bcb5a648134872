-- The first lines of the log of an epoch (this project's profile).
use Rattle.std.specs.Prelude.{◌≡◌, ◌≢◌, ◌⊎◌, ◌<◌, ◌+◌, ◌^◌, ℕ, List, [], ◌∷◌, ◌++◌, length, codes, flat_map, Option, Some, None}
use Rattle.std.specs.List.{AllByRecursion}
use Rattle.std.specs.Fmt.{decimal}
use Rattle.hex.specs.Hex.{encode_lower, IsBytes}
use Rattle.sha2.specs.Sha256.{sha256}
use Rattle.scp_live_log.specs.Log.{IsDigest}

-- What the first line says: the digest of the configuration, the number of the epoch, its first slot, and the digest of the last entry of
-- the log before.
pub record FirstView : Type 0 where
  pub digest : List ℕ
  pub epoch : ℕ
  pub first : ℕ
  pub before : List ℕ

-- What the first lines say: the first of them; the state before the first slot, as the application writes it; and own statements, to be
-- said again.
pub record HeadView : Type 0 where
  pub line : FirstView
  pub base : List ℕ
  pub said : List (List ℕ)

-- Digests have 32 bytes, and numbers are below 2^64.
pub record IsFirst (f : FirstView) : Type 0 where
  pub digest : IsDigest f.digest
  pub before : IsDigest f.before
  pub epoch : f.epoch < 2 ^ 64
  pub first : f.first < 2 ^ 64

-- The first line fits, and all else is bytes.
pub record IsHead (h : HeadView) : Type 0 where
  pub line : IsFirst h.line
  pub base : IsBytes h.base
  pub said : AllByRecursion IsBytes h.said

-- A line with its end.
abbrev pub ended : List ℕ → List ℕ
ended line = line ++ 10 ∷ []

-- Bytes as hexadecimal digits, or a dash for none.
abbrev pub digits_or_dash : List ℕ → List ℕ
digits_or_dash [] = codes "-"
digits_or_dash (byte ∷ bytes) = encode_lower (byte ∷ bytes)

-- `scp_node 2 DIGEST EPOCH FIRST BEFORE`
abbrev pub first_line : FirstView → List ℕ
first_line f = codes "scp_node 2 " ++ (encode_lower f.digest ++ 32 ∷ (decimal f.epoch ++ 32 ∷ (decimal f.first ++ 32 ∷ encode_lower f.before)))

-- `base HEX`
abbrev pub base_line : List ℕ → List ℕ
base_line bytes = codes "base " ++ digits_or_dash bytes

-- `said HEX`
abbrev pub said_line : List ℕ → List ℕ
said_line bytes = codes "said " ++ encode_lower bytes

-- `= SHA`: the SHA-256 of all lines above
abbrev pub sum_line : List ℕ → List ℕ
sum_line above = codes "= " ++ encode_lower (sha256 above)

-- The lines of these statements.
abbrev pub said_lines : List (List ℕ) → List ℕ
said_lines said = flat_map (λ bytes. ended (said_line bytes)) said

-- The lines above the last one.
abbrev pub above : HeadView → List ℕ
above h = ended (first_line h.line) ++ (ended (base_line h.base) ++ said_lines h.said)

-- The first lines of a log.
abbrev pub head_bytes : HeadView → List ℕ
head_bytes h = above h ++ ended (sum_line (above h))

-- The bytes don't begin with this.
abbrev pub NotAtFront : List ℕ → List ℕ → Type 0
NotAtFront front bytes = (rest : List ℕ) → bytes ≢ front ++ rest

-- The bytes begin with no first line.
abbrev pub HasNoFirst : List ℕ → Type 0
HasNoFirst bytes = (f : FirstView) → IsFirst f → NotAtFront (ended (first_line f)) bytes

-- The first line fits, and the second doesn't.
pub record HasNoBase (bytes : List ℕ) : Type 0 where
  pub line : FirstView
  pub rest : List ℕ
  pub fits : IsFirst line
  pub splits : bytes ≡ ended (first_line line) ++ rest
  pub unfit : (base : List ℕ) → IsBytes base → NotAtFront (ended (base_line base)) rest

-- The lines above line n fit, and line n neither is a statement's nor has the sum of them.
pub record HasNoSum (n : ℕ) (bytes : List ℕ) : Type 0 where
  pub head : HeadView
  pub rest : List ℕ
  pub fits : IsHead head
  pub count : n ≡ 3 + length head.said
  pub splits : bytes ≡ above head ++ rest
  pub no_said : (said : List ℕ) → IsBytes said → NotAtFront (ended (said_line said)) rest
  pub no_sum : NotAtFront (ended (sum_line (above head))) rest

-- Line n is the first that doesn't fit.
abbrev pub IsUnfit : ℕ → List ℕ → Type 0
IsUnfit n bytes = ((n ≡ 1) × HasNoFirst bytes) ⊎ (((n ≡ 2) × HasNoBase bytes) ⊎ HasNoSum n bytes)

-- What the first lines of a log say. Those of a log without epochs say nothing of them.
abbrev pub IsBeginning : Option HeadView → List ℕ → Type 0
IsBeginning (Some h) bytes = IsHead h × ((rest : List ℕ) × (bytes ≡ head_bytes h ++ rest))
IsBeginning None bytes = NotAtFront (codes "scp_node 2 ") bytes

-- The number of the epoch: a log without epochs is that of the first.
abbrev pub epoch_in : Option HeadView → ℕ
epoch_in (Some h) = h.line.epoch
epoch_in None = 1

-- The first slot of the epoch.
abbrev pub slot_in : Option HeadView → ℕ
slot_in (Some h) = h.line.first
slot_in None = 1
