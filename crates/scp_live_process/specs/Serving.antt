-- What was served of an input (this project's profile).
use Rattle.std.specs.Prelude.{ℕ, ◌≡◌, ◌≢◌, List, [], ◌++◌, Option, Some, Result, IsErrOf, flat_map}
use Rattle.scp_stand_node.specs.scp_types.specs.declared.fault.Fault.{Fault}
use Rattle.scp_stand_node.specs.scp_types.specs.declared.fault.Fault.TheVariants.{NoMemory, Device}
use Rattle.scp_stand_node.specs.scp_device.specs.Device.{Loses, HasEnded, Gains, GainsPart}
use Rattle.scp_stand_node.specs.scp_core.specs.History.{Exchange}
use Rattle.scp_batches.specs.scp_live_log.specs.declared.kept.Kept.{Kept}
use Rattle.scp_batches.specs.scp_live_log.specs.Disk.{StartsWith}
use Rattle.scp_batches.specs.scp_live_log.specs.Kept.{IsSettled}
use Rattle.scp_batches.specs.scp_live_log.specs.Log.{EntryView, Marked, batch_of, log_of}
use Rattle.scp_batches.specs.Lines.{Gives}
use Rattle.scp_live.specs.Live.{LiveView}
use Rattle.scp_live_process.specs.Answers.{AreAnswered}

-- The entries of batches, in order.
abbrev pub entries_in : List (List EntryView) → List EntryView
entries_in batches = flat_map (λ batch. batch) batches

-- The same entries with the marks that the log gives them.
abbrev pub marked_in : List (List EntryView) → List Marked
marked_in batches = flat_map batch_of batches

-- Lines were read from the front of an input. This is what they were answered, and, in batches, what is kept of them.
pub record IsAnswer (left : Option (List ℕ)) (rest : Option (List ℕ)) (old : LiveView) (heard : List Exchange) (new : LiveView) (batches : List (List EntryView)) (text : List ℕ) : Type 0 where
  pub bytes : List ℕ
  pub lines : List (List ℕ)
  pub held : List ℕ
  pub read : Loses left bytes rest
  pub gives : Gives bytes lines held
  pub answered : AreAnswered 1 lines old heard new (entries_in batches) text

-- All lines of an input were answered, and the answers are written. What is kept of them is on the disk, after what was kept before.
pub record HasServed {L : Type 0} (holds may_leave : L → List ℕ → Type 0) (left written longer : Option (List ℕ)) (log log' : Kept L) (old : LiveView) (heard : List Exchange) (new : LiveView) : Type 0 where
  pub batches : List (List EntryView)
  pub text : List ℕ
  pub rest : Option (List ℕ)
  pub answer : IsAnswer left rest old heard new batches text
  pub ended : HasEnded rest
  pub wrote : Gains written text longer
  pub settled : (header : List ℕ) (ms : List Marked) → IsSettled holds may_leave header ms log → IsSettled holds may_leave header (ms ++ marked_in batches) log'

-- An input wasn't served to its end. What was written is a prefix of the answers to its first lines. All that is kept of these lines is
-- on the disk. Unless a device failed, all these answers are written. Memory runs out only where more was to be read.
pub record HasServedPart {L : Type 0} (may_leave holds : L → List ℕ → Type 0) (result : Result (Unit {0}) Fault) (left written longer : Option (List ℕ)) (log log' : Kept L) (old : LiveView) (heard : List Exchange) : Type 0 where
  pub batches : List (List EntryView)
  pub text : List ℕ
  pub rest : Option (List ℕ)
  pub mid : LiveView
  pub so_far : List Exchange
  pub later : List Exchange
  pub heard_is : heard ≡ so_far ++ later
  pub answer : IsAnswer left rest old so_far mid batches text
  pub wrote : GainsPart written text longer
  pub whole : (IsErrOf result Device → ⊥) → Gains written text longer
  pub more : IsErrOf result NoMemory → rest ≢ Some []
  pub durable : (header : List ℕ) (ms : List Marked) → IsSettled holds may_leave header ms log → (c : List ℕ) → may_leave log'.log c → StartsWith (log_of header (ms ++ marked_in batches)) c
