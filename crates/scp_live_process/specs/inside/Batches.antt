-- What became of a batch of lines.
use Rattle.std.specs.Prelude.{ℕ, List, [], ◌∷◌, ◌++◌}
use Rattle.scp_stand_node.specs.scp_core.specs.History.{Exchange}
use Rattle.scp_batches.specs.scp_live_log.specs.declared.kept.Kept.{Kept}
use Rattle.scp_batches.specs.scp_live_log.specs.Disk.{StartsWith}
use Rattle.scp_batches.specs.scp_live_log.specs.Kept.{IsSettled}
use Rattle.scp_batches.specs.scp_live_log.specs.Log.{EntryView, Marked, batch_of, log_of}
use Rattle.scp_live.specs.Live.{LiveView}
use Rattle.scp_live_process.specs.Answers.{AreAnswered, next_number}

-- The number of the line after these, if the first of them has this number.
abbrev pub number_behind : ℕ → List (List ℕ) → ℕ
number_behind number [] = number
number_behind number (line ∷ lines) = number_behind (next_number number) lines

-- The lines were answered, and the answers are written as W says. What is kept of the lines is on the disk, after what was kept before.
pub record IsBatch {L : Type 0} (holds may_leave : L → List ℕ → Type 0) (W : List ℕ → Type 0) (number : ℕ) (lines : List (List ℕ)) (log log' : Kept L) (old : LiveView) (heard : List Exchange) (new : LiveView) : Type 0 where
  pub entries : List EntryView
  pub text : List ℕ
  pub answered : AreAnswered number lines old heard new entries text
  pub wrote : W text
  pub settled : (header : List ℕ) (ms : List Marked) → IsSettled holds may_leave header ms log → IsSettled holds may_leave header (ms ++ batch_of entries) log'

-- What was kept before is still on the disk.
abbrev pub StaysDurable : {L : Type 0} → (L → List ℕ → Type 0) → (L → List ℕ → Type 0) → Kept L → Kept L → Type 0
StaysDurable holds may_leave log log' = (header : List ℕ) (ms : List Marked) → IsSettled holds may_leave header ms log → (c : List ℕ) → may_leave log'.log c → StartsWith (log_of header ms) c
