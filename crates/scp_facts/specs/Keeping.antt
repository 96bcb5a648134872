-- What a watch knows of a step before it is done, and what it keeps of the step then; and a law that this is what happened in the step.
use Rattle.std.specs.Prelude.{ℕ, ◌≡◌, ◌⊎◌, Bool, true, false, List, ◌++◌, Option, None, length, slice_get}
use Rattle.scp_turn.specs.scp_core.specs.declared.event.Event.{Event}
use Rattle.scp_turn.specs.scp_core.specs.declared.event.Event.TheVariants as event
use Rattle.scp_turn.specs.scp_core.specs.declared.event.Reply.{Reply}
use Rattle.scp_turn.specs.scp_core.specs.History.{Exchange}
use Rattle.scp_turn.specs.scp_core.specs.Kv.{NodeView}
use Rattle.scp_turn.specs.Watch.{notes}
use Rattle.scp_turn.specs.Kv.{Noting, Watched}
use Rattle.scp_facts.specs.declared.happening.Happening.{Happening}
use Rattle.scp_facts.specs.declared.happening.Happening.TheVariants.{Opened, Came, Closed, Given}
use Rattle.scp_facts.specs.declared.happening.Kept.{Kept}
use Rattle.scp_facts.specs.declared.keeping.Awaited.{Awaited}
use Rattle.scp_facts.specs.declared.keeping.Awaited.TheVariants.{Nothing, AtTail, Drain, Take}
use Rattle.scp_facts.specs.Facts.{command_in}
use Rattle.scp_facts.specs.Kept.{Keeps, accepted, drained, moved, kept_of}

-- what contracts see of a watch
pub record WatchView : Type 0 where
  pub kept : List Kept
  pub awaited : Awaited
  pub lacks_memory : Bool

-- what is known of a step before it is done
abbrev pub awaited : Event → NodeView → Awaited
awaited (event.Open link) node = AtTail (Opened link)
awaited (event.Send link bytes) node = AtTail (Came link bytes)
awaited (event.Close link) node = AtTail (Closed link)
awaited (event.Local command) node = AtTail (Given command)
awaited (event.Drain link) node = Drain link
awaited event.SlotTake node = Take (length node.ledger.journal) (command_in (slice_get node.ready 0))
awaited event node = Nothing

-- what happened in the step
abbrev pub happens : Awaited → Reply → NodeView → Option Happening
happens (AtTail happening) reply node = accepted happening reply
happens (Drain link) reply node = drained link reply
happens (Take entries command) reply node = moved entries command node reply
happens Nothing reply node = None

-- what the watch knows before a step, unless it is out of memory
abbrev pub Awaits : WatchView → ℕ → Event → NodeView → WatchView → Type 0
Awaits old number event node new = (new.lacks_memory ≡ true) ⊎ (new ≡ record old { awaited = awaited event node })

-- what the watch keeps after a step, unless it is out of memory
abbrev pub KeepsStep : WatchView → ℕ → Reply → NodeView → WatchView → Type 0
KeepsStep old number reply node new = (new.lacks_memory ≡ true) ⊎ (new ≡ record old { awaited = Nothing; kept = old.kept ++ kept_of number (happens old.awaited reply node) })

-- what the watch notes of a step
abbrev pub noting : Noting WatchView
noting = notes Awaits KeepsStep

-- What a watch that didn't run out of memory in a step kept of it is what happened in it. It hadn't run out of memory before.
abbrev pub StepIsKept : Type 0
StepIsKept = (number : ℕ) (event : Event) (reply : Reply) (before after' : NodeView) (first last : WatchView) → last.lacks_memory ≡ false → noting first number event reply before after' last → (first.lacks_memory ≡ false) × Keeps first.kept number event reply before after' last.kept

-- If a watch never ran out of memory, what it kept of a node's steps is what happened in them.
abbrev pub KeptIsWhatHappened : Type 0
KeptIsWhatHappened = (number : ℕ) (old new : NodeView) (heard : List Exchange) (first last : WatchView) → last.lacks_memory ≡ false → Watched noting number first old heard new last → Watched Keeps number first.kept old heard new last.kept
