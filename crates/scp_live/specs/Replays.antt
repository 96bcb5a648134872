-- How the entries of a log are played again (this project's profile).
use Rattle.std.specs.Prelude.{ℕ, ◌≡◌, ◌≢◌, ◌⊎◌, List, [], ◌∷◌, ◌++◌, Some, take, slice_get}
use Rattle.scp_again.specs.scp_core.specs.declared.event.Event.{Event as Happening}
use Rattle.scp_again.specs.scp_core.specs.History.{Exchange}
use Rattle.scp_again.specs.scp_types.specs.declared.fault.Fault.TheVariants.{NoMemory, JournalFull}
use Rattle.scp_live_log.specs.declared.kept.LogFault.{LogFault}
use Rattle.scp_live_log.specs.declared.kept.LogFault.TheVariants.{Damaged, Failed}
use Rattle.scp_live_log.specs.declared.wanted.Unfit.{Unfit}
use Rattle.scp_live_log.specs.declared.wanted.Unfit.TheVariants as unfit
use Rattle.scp_live_log.specs.Log.{EntryView}
use Rattle.scp_live_lines.specs.declared.asked.Asked.{Asked}
use Rattle.scp_live_lines.specs.declared.asked.Asked.TheVariants.{Event}
use Rattle.scp_live_lines.specs.Says.{Says}
use Rattle.scp_live.specs.Live.{LiveView, IsTold}

-- The line of an entry says an event, which was played. What was sent for it has the digest that the entry has.
pub record IsReplayed (entry : EntryView) (old : LiveView) (heard : List Exchange) (new : LiveView) : Type 0 where
  pub event : Happening
  pub says : Says old.names entry.line (Event event)
  pub told : List ℕ
  pub tells : IsTold event old.names old.timers new.timers old.node heard new.node [] told entry.sent
  pub names : new.names ≡ old.names
  pub nodes : new.nodes ≡ old.nodes

-- First the one, and then the other from where the first ended.
pub record Then (First Next : LiveView → List Exchange → LiveView → Type 0) (old : LiveView) (heard : List Exchange) (new : LiveView) : Type 0 where
  pub mid : LiveView
  pub heard_first : List Exchange
  pub heard_next : List Exchange
  pub heard_is : heard ≡ heard_first ++ heard_next
  pub first : First old heard_first mid
  pub next : Next mid heard_next new

-- The entries were played one after the other.
abbrev pub AreReplayed : List EntryView → LiveView → List Exchange → LiveView → Type 0
AreReplayed [] old heard new = (heard ≡ []) × (new ≡ old)
AreReplayed (entry ∷ entries) old heard new = Then (IsReplayed entry) (AreReplayed entries) old heard new

-- What is asked for is no event.
abbrev pub IsNoEvent : Asked → Type 0
IsNoEvent (Event event) = ⊥
IsNoEvent asked = Unit {0}

-- With these names of the links, the line says no event: it asks for something else, or for nothing that a host can ask for.
abbrev pub SaysNoEvent : List (List ℕ) → List ℕ → Type 0
SaysNoEvent names line = ((asked : Asked) × Says names line asked × IsNoEvent asked) ⊎ ((asked : Asked) → ¬ (Says names line asked))

-- The line of an entry says an event, which was played. What was sent for it has another digest than the entry.
pub record IsOtherwise (entry : EntryView) (old : LiveView) (heard : List Exchange) (new : LiveView) : Type 0 where
  pub event : Happening
  pub says : Says old.names entry.line (Event event)
  pub told : List ℕ
  pub digest : List ℕ
  pub tells : IsTold event old.names old.timers new.timers old.node heard new.node [] told digest
  pub other : digest ≢ entry.sent

-- The entry can't be played again for this reason: its line says no event, or something else is sent for it now.
abbrev pub IsUnfit : Unfit → EntryView → LiveView → List Exchange → LiveView → Type 0
IsUnfit unfit.Chain entry old heard new = ⊥
IsUnfit unfit.NoEvent entry old heard new = SaysNoEvent old.names entry.line
IsUnfit unfit.SendsOtherwise entry old heard new = IsOtherwise entry old heard new

-- The entries before this index were played one after the other, and the one at the index can't be played for this reason.
pub record IsUnfitAt (entries : List EntryView) (place : ℕ) (why : Unfit) (old : LiveView) (heard : List Exchange) (new : LiveView) : Type 0 where
  pub entry : EntryView
  pub there : slice_get entries place ≡ Some entry
  pub played : Then (AreReplayed (take place entries)) (IsUnfit why entry) old heard new

-- A replay is refused so: an entry doesn't fit, memory ran out, or the journal is full.
abbrev pub IsPlayFault : LogFault → Type 0
IsPlayFault (Damaged place why) = Unit {0}
IsPlayFault (Failed f) = (f ≡ NoMemory) ⊎ (f ≡ JournalFull)
IsPlayFault other = ⊥
