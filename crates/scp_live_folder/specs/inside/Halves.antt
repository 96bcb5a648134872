-- The first half of a switch.
use Rattle.std.specs.Prelude.{ℕ, List}
use Rattle.scp_live_folder.specs.Folder.{FolderView, linked, with_next}

-- The next log is written, and `now` has the name of an ended epoch too.
abbrev pub prepared : ℕ → List ℕ → FolderView → FolderView
prepared epoch bytes v = linked epoch (with_next bytes v)
