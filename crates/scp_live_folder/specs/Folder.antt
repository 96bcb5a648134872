-- What a folder holds of a node's logs, what the calls of its disk do to that, and what a crash may do between two syncs.
use Rattle.std.specs.Prelude.{◌≡◌, ◌⊎◌, ℕ, List, [], ◌∷◌, ◌++◌, map, if◌then◌else◌, nat_eq}

-- What a folder holds. A file that isn't there has no bytes.
pub record FolderView : Type 0 where
  -- the file `now`: the log of the present epoch
  pub now : List ℕ
  -- the file `next`: the log of the next epoch, while it is written
  pub next : List ℕ
  -- each epoch N for which `now` has the name `past-N` too
  pub second : List ℕ
  -- each other file `past-N`: its epoch and its bytes, the last one first
  pub past : List (ℕ × List ℕ)

-- The file stays as it is.
abbrev pub Same : List ℕ → List ℕ → Type 0
Same old new = new ≡ old

-- Only `now` and `next` may differ, `now` by this step.
pub record Keeps (step : List ℕ → List ℕ → Type 0) (old new : FolderView) : Type 0 where
  pub now : step old.now new.now
  pub second : new.second ≡ old.second
  pub past : new.past ≡ old.past

-- A change of names that a crash may lose, whole.
abbrev pub MayBe : (FolderView → FolderView) → FolderView → FolderView → Type 0
MayBe change old new = (new ≡ old) ⊎ (new ≡ change old)

-- The folder with these bytes in `now`.
abbrev pub with_now : List ℕ → FolderView → FolderView
with_now bytes v = record { now = bytes; next = v.next; second = v.second; past = v.past }

-- The folder with these bytes in `next`.
abbrev pub with_next : List ℕ → FolderView → FolderView
with_next bytes v = record { now = v.now; next = bytes; second = v.second; past = v.past }

-- `now` has the name of this ended epoch too.
abbrev pub linked : ℕ → FolderView → FolderView
linked epoch v = record { now = v.now; next = v.next; second = epoch ∷ v.second; past = v.past }

-- The list without this number.
abbrev pub without : ℕ → List ℕ → List ℕ
without n [] = []
without n (m ∷ ms) = if nat_eq m n then without n ms else m ∷ without n ms

-- `now` doesn't have the name of this ended epoch.
abbrev pub unlinked : ℕ → FolderView → FolderView
unlinked epoch v = record { now = v.now; next = v.next; second = without epoch v.second; past = v.past }

-- `next` is `now`. What was `now` stays where it had another name.
abbrev pub renamed : FolderView → FolderView
renamed v = record { now = v.next; next = []; second = []; past = map (λ epoch. (epoch, v.now)) v.second ++ v.past }
