-- What a watch knows of a step before it is done, and tells of it then; and that this is what happened in it.
use Rattle.std.specs.Prelude.{ℕ, ◌≡◌, ◌⊎◌, Bool, true, false, List, [], ◌∷◌, ◌++◌, length, map, slice_get}
use Rattle.scp_turn.specs.scp_core.specs.declared.event.Event.{Event}
use Rattle.scp_turn.specs.scp_core.specs.declared.event.Event.TheVariants as event
use Rattle.scp_turn.specs.scp_core.specs.declared.event.Reply.{Reply}
use Rattle.scp_turn.specs.scp_core.specs.History.{Exchange}
use Rattle.scp_turn.specs.scp_core.specs.Node.{item_at, has_read_at}
use Rattle.scp_turn.specs.scp_core.specs.Kv.{NodeView}
use Rattle.scp_turn.specs.Watch.{notes}
use Rattle.scp_turn.specs.Kv.{Noting, Watched}
use Rattle.scp_facts.specs.declared.fact.Fact.{Fact}
use Rattle.scp_facts.specs.declared.fact.Fact.TheVariants.{Came, Given}
use Rattle.scp_facts.specs.declared.fact.Telling.{Telling}
use Rattle.scp_facts.specs.declared.fact.Telling.TheVariants.{Line}
use Rattle.scp_facts.specs.declared.watch.Awaited.{Awaited}
use Rattle.scp_facts.specs.declared.watch.Awaited.TheVariants.{Nothing, Offer, Read, Move, Decide, Apply, Drain}
use Rattle.scp_facts.specs.Facts.{offered, moved, drained, conn_on, conn_of_bytes, discarded, pending_tells, command_in, slot_tells, applier_tells, asked_in}
use Rattle.scp_facts.specs.Telling.{Tells, of_node}

-- what contracts see of a watch
pub record WatchView : Type 0 where
  pub tellings : List Telling
  pub awaited : Awaited
  pub lacks_memory : Bool

-- what is known of a step before it is done
abbrev pub awaited : Event → NodeView → Awaited
awaited (event.Open link) v = Offer []
awaited (event.Send link bytes) v = Offer (Came (conn_on v link) bytes ∷ [])
awaited (event.Close link) v = Offer []
awaited (event.Local command) v = Offer (Given command ∷ [])
awaited (event.ReaderTake link) v = Read link (conn_of_bytes (item_at v link))
awaited (event.ReaderPut link) v = Nothing
awaited event.PendTake v = Move (pending_tells v)
awaited event.PendPut v = Nothing
awaited event.SlotTake v = Decide (length v.ledger.journal) (length v.ledger.decisions) (command_in (slice_get v.ready 0))
awaited event.SlotPut v = Nothing
awaited event.ApplyTake v = Apply (length v.applier.applied) (asked_in (slice_get v.decided 0))
awaited (event.Drain link) v = Drain link

-- what it told
abbrev pub happens : Awaited → Reply → NodeView → List Fact
happens Nothing reply v = []
happens (Offer facts) reply v = offered facts reply
happens (Read link conn) reply v = moved (discarded conn (has_read_at v link)) reply
happens (Move facts) reply v = moved facts reply
happens (Decide entries decisions command) reply v = moved (slot_tells entries decisions command v) reply
happens (Apply before asked) reply v = moved (applier_tells before asked v) reply
happens (Drain link) reply v = drained link reply

-- what it knows before a step, unless there was no memory for it
abbrev pub Awaits : WatchView → ℕ → Event → NodeView → WatchView → Type 0
Awaits old number event v new = (new.lacks_memory ≡ true) ⊎ (new ≡ record old { awaited = awaited event v })

-- what it tells behind a step, unless there was no memory for it
abbrev pub TellsStep : WatchView → ℕ → Reply → NodeView → WatchView → Type 0
TellsStep old number reply v new = (new.lacks_memory ≡ true) ⊎ (new ≡ record old { awaited = Nothing; tellings = old.tellings ++ map (of_node number) (happens old.awaited reply v) })

-- what it notes of a step
abbrev pub noting : Noting WatchView
noting = notes Awaits TellsStep

-- that a line begins, unless there was no memory for it
abbrev pub BeginsLine : WatchView → ℕ → WatchView → Type 0
BeginsLine old line new = (new.lacks_memory ≡ true) ⊎ (new ≡ record old { tellings = old.tellings ++ Line line ∷ [] })

-- What a watch that doesn't lack memory behind a step told of it is what happened in it; and it didn't lack memory before it.
abbrev pub StepIsTold : Type 0
StepIsTold = (number : ℕ) (event : Event) (reply : Reply) (before after' : NodeView) (first last : WatchView) → last.lacks_memory ≡ false → noting first number event reply before after' last → (first.lacks_memory ≡ false) × Tells first.tellings number event reply before after' last.tellings

-- What a watch that never lacked memory told of the steps of a node is what happened in them.
abbrev pub ToldIsWhatHappened : Type 0
ToldIsWhatHappened = (number : ℕ) (old new : NodeView) (heard : List Exchange) (first last : WatchView) → last.lacks_memory ≡ false → Watched noting number first old heard new last → Watched Tells number first.tellings old heard new last.tellings
