-- The contents that a folder in memory has had.
use Rattle.std.specs.Prelude.{◌≡◌, ◌⊎◌, ℕ, List, [], ◌∷◌, length, drop}
use mathlib.Core.Logic.{inl, inr}
use Rattle.scp_live_folder.specs.Folder.{FolderView}

-- One of these contents is exactly this.
abbrev pub HadBeen : List FolderView → FolderView → Type 0
HadBeen [] left = ⊥
HadBeen (v ∷ past) left = (left ≡ v) ⊎ HadBeen past left

-- What there was since moment t: what is there now, or a past content behind the first t.
abbrev pub HasBeenSince : List FolderView → FolderView → ℕ → FolderView → Type 0
HasBeenSince past now t left = (left ≡ now) ⊎ HadBeen (drop t past) left

-- No content comes after the last of them.
none_left : (past : List FolderView) (left : FolderView) → HadBeen (drop (length past) past) left → ⊥
none_left [] left had = had
none_left (v ∷ past) left had = none_left past left had

-- Since the last past content, there is only the present one.
pub only_content : (past : List FolderView) (now left : FolderView) → HasBeenSince past now (length past) left → left ≡ now
only_content past now left (inl is) = is
only_content past now left (inr had) = absurd (none_left past left had)
