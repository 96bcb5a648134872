-- What a node does by its stages, as a watch is shown it.
-- No public clause reaches these definitions: nothing here need be believed.
use Rattle.std.specs.Prelude.{ℕ, ◌≡◌, ◌↔◌, Bool, false, List}
use Rattle.scp_core.specs.scp_driver.specs.Driver.{Says}
use Rattle.scp_core.specs.declared.event.Event.{Event}
use Rattle.scp_core.specs.declared.event.Event.TheVariants as event
use Rattle.scp_core.specs.Node.{NodeView}
use Rattle.scp_turn.specs.Watch.{Noting, Watched}
use Rattle.scp_turn.specs.Turn.{Goes, IsStill, events_of}

-- an event of a stage
abbrev pub IsStage : Event → Type 0
IsStage (event.Open l) = ⊥
IsStage (event.Send l bytes) = ⊥
IsStage (event.Close l) = ⊥
IsStage (event.Local command) = ⊥
IsStage (event.ReaderTake l) = Unit {0}
IsStage (event.ReaderPut l) = Unit {0}
IsStage event.PendTake = Unit {0}
IsStage event.PendPut = Unit {0}
IsStage event.SlotTake = Unit {0}
IsStage event.SlotPut = Unit {0}
IsStage event.ApplyTake = Unit {0}
IsStage (event.Drain l) = ⊥

module _ {D : Type 0} (says : Says D) where
  -- the node of this number did these steps, and a watch was shown each; `moved` is false exactly if nothing moved
  abbrev pub Acts : {W : Type 0} → Noting D W → ℕ → W → NodeView D → List Event → Bool → NodeView D → W → Type 0
  Acts {W} Note number w old events moved new z =
      Goes says old new (λ a heard b. (events_of heard ≡ events) × Watched says Note number w a heard b z × ((moved ≡ false) ↔ IsStill heard))
