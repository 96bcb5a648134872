-- What the calls of a disk do to its file, and what a crash may do between two syncs.
use Rattle.std.specs.Prelude.{◌≡◌, ◌⊎◌, ℕ, ◌≤◌, List, [], ◌++◌, length, Result, IsErrOf, IsErr}
use Rattle.scp_device.specs.scp_types.specs.declared.fault.Fault.{Fault}
use Rattle.scp_device.specs.scp_types.specs.declared.fault.Fault.TheVariants.{NoMemory, Device}
use Rattle.scp_device.specs.Device.{Fails}

-- The file begins with these bytes.
abbrev pub StartsWith : List ℕ → List ℕ → Type 0
StartsWith front file = (rest : List ℕ) × (file ≡ front ++ rest)

-- An append of n bytes that a crash may cut short. All that was there stays, and at most n further bytes follow it, whatever they are.
pub record Torn (n : ℕ) (old new : List ℕ) : Type 0 where
  pub behind : List ℕ
  pub all : new ≡ old ++ behind
  pub few : length behind ≤ n

-- A cut to n bytes that a crash may cut short. The file is a prefix of what was there: at least n bytes of it, or all of it.
pub record Cut (n : ℕ) (old new : List ℕ) : Type 0 where
  pub behind : List ℕ
  pub all : old ≡ new ++ behind
  pub enough : (n ≤ length new) ⊎ (behind ≡ [])

-- What is left is one of two things, whole.
abbrev pub IsEither : {C : Type 0} → C → C → C → Type 0
IsEither one other left = (left ≡ one) ⊎ (left ≡ other)

-- Each outcome that a crash may leave now is what this step makes of an outcome that a crash could leave before.
abbrev pub Follows : {C : Type 0} → (C → C → Type 0) → (C → Type 0) → (C → Type 0) → Type 0
Follows {C} step old new = (c : C) → new c → (d : C) × old d × step d c

-- A crash leaves exactly this and nothing else.
abbrev pub Only : {C : Type 0} → C → (C → Type 0) → Type 0
Only {C} file outcomes = (c : C) → outcomes c → c ≡ file

-- Time passes during a call. For a crash since t, each earlier outcome remains possible, and the only new ones are those that a crash
-- may leave now.
pub record Elapses {C : Type 0} (before now : ℕ) (past since : ℕ → C → Type 0) (may_leave : C → Type 0) : Type 0 where
  pub later : before ≤ now
  pub nothing_else : (t : ℕ) (c : C) → t ≤ before → since t c → past t c ⊎ may_leave c
  pub keeps : (t : ℕ) (c : C) → t ≤ before → past t c → since t c

-- A crash at any moment since `old` leaves something for which P holds.
pub record LeavesOnly {D C : Type 0} (moment : D → ℕ) (left_since : D → ℕ → C → Type 0) (old new : D) (P : C → Type 0) : Type 0 where
  pub later : moment old ≤ moment new
  pub each : (c : C) → left_since new (moment old) c → P c
  -- The same for a span that began before `old`: each outcome was possible already, or P holds for it.
  pub before : (t : ℕ) (c : C) → t ≤ moment old → left_since new t c → left_since old t c ⊎ P c

-- A refusal is `Device` or `NoMemory`. `Device` means that the disk failed; otherwise the count of its failures stays the same.
pub record HasCause {T : Type 0} (before now : ℕ) (result : Result T Fault) : Type 0 where
  pub raised : IsErrOf result Device → Fails before now
  pub quiet : (IsErrOf result Device → ⊥) → now ≡ before
  pub only : IsErr result → IsErrOf result Device ⊎ IsErrOf result NoMemory
