-- What a life sends to the peer of a link never goes back.
use Rattle.std.specs.Prelude.{ℕ, ◌<◌, ◌≡◌, false, List, [], ◌∷◌, ◌++◌}
use Rattle.std.specs.List.{AllByRecursion}
use Rattle.scp_again.specs.scp_driver.specs.Driver.{Says}
use Rattle.scp_again.specs.scp_wire.specs.declared.message.Message.{Message}
use Rattle.scp_again.specs.scp_core.specs.Sent.{sent_to}
use Rattle.scp_turn.specs.Turn.{links_of}
use Rattle.scp_again.specs.Again.{again_of}
use Rattle.scp_again.specs.Ascending.{Ascend}
use Rattle.scp_again.specs.Laws.{AreEncoded}
use Rattle.scp_epoch.specs.Life.{Epoch, IsLife}

module _ {D : Type 0} where
  -- The messages of a link, over epochs: of each epoch what its node sent behind the carried part, and what it would send once more at its end.
  abbrev pub AreSent : ℕ → List (Epoch D) → List Message → Type 0
  AreSent link [] messages = messages ≡ []
  AreSent link (e ∷ epochs) messages = (sent : List Message) × (rest : List Message) × AreEncoded (sent_to link e.later) sent × AreSent link epochs rest × (messages ≡ sent ++ (again_of e.end.ledger link ++ rest))

  -- Each epoch's node runs at the epoch's end, and has this link.
  abbrev pub AllRun : ℕ → List (Epoch D) → Type 0
  AllRun link epochs = AllByRecursion (λ (e : Epoch D). (e.end.failed ≡ false) × (link < links_of e.end)) epochs

module _ {D S : Type 0} (says : Says D) (said : List ℕ → S) (after' : S → List ℕ → S) where
  -- Over each link, in this order, the statements of each slot and kind never go back.
  abbrev pub LivesNeverGoBack : Type 0
  LivesNeverGoBack =
      (first : ℕ) (base : List ℕ) (epochs : List (Epoch D)) → IsLife says said after' first base epochs → (link : ℕ) → AllRun link epochs → (messages : List Message) × AreSent link epochs messages × Ascend messages
