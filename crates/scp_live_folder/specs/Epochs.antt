-- The end of an epoch and the beginning of the next one, in a folder.
use Rattle.std.specs.Prelude.{◌≡◌, ◌⊎◌, ℕ, List, [], ◌∷◌, ◌++◌, map}
use Rattle.scp_live_folder.specs.Folder.{FolderView, unlinked, with_next}

-- The folder behind a switch: the other log is `now`, and the one before has the name of its ended epoch.
abbrev pub switched : ℕ → List ℕ → FolderView → FolderView
switched epoch bytes v = record { now = bytes; next = []; second = []; past = map (λ n. (n, v.now)) (epoch ∷ v.second) ++ v.past }

-- The log of the epoch is still `now`, whole, and so are those of ended epochs. It may have the name of an ended epoch too, and `next` may
-- hold whatever was written of it.
pub record IsStill (epoch : ℕ) (old left : FolderView) : Type 0 where
  pub now : left.now ≡ old.now
  pub past : left.past ≡ old.past
  pub second : (left.second ≡ old.second) ⊎ (left.second ≡ epoch ∷ old.second)

-- What a crash leaves during a switch: the logs, still as they might have been left before or as the folder holds them, or else the whole of
-- what is there behind the switch.
abbrev pub IsLeftOf : ℕ → List ℕ → FolderView → (FolderView → Type 0) → FolderView → Type 0
IsLeftOf epoch bytes held before left = ((u : FolderView) × before u × IsStill epoch u left) ⊎ (IsStill epoch held left ⊎ (left ≡ switched epoch bytes held))

-- What a start makes of a folder whose `now` is the log of this epoch.
abbrev pub settled : ℕ → FolderView → FolderView
settled epoch v = unlinked epoch (with_next [] v)

-- The logs are the same: that of the present epoch and those of ended ones.
pub record HasSameLogs (old left : FolderView) : Type 0 where
  pub now : left.now ≡ old.now
  pub past : left.past ≡ old.past

-- Whatever a crash leaves of a switch, a start finds the old epoch or the next one, each whole: as its number is that of the log in `now`.
abbrev pub FindsOneEpoch : Type 0
FindsOneEpoch =
    (epoch next : ℕ) (bytes : List ℕ) (old left : FolderView) → old.next ≡ [] → old.second ≡ []
    → IsStill epoch old left ⊎ (left ≡ switched epoch bytes old)
    → ((left.now ≡ old.now) × (settled epoch left ≡ old)) ⊎ ((left.now ≡ bytes) × (settled next left ≡ switched epoch bytes old))
