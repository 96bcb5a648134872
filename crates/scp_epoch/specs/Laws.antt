-- What holds of each life.
use Rattle.std.specs.Prelude.{ℕ, ◌+◌, ◌<◌, ◌≤◌, ◌≡◌, false, List, [], ◌∷◌, ◌++◌, Some}
use Rattle.std.specs.List.{AllByRecursion}
use Rattle.scp_again.specs.scp_types.specs.declared.limits.TheConstants.{WINDOW}
use Rattle.scp_again.specs.scp_driver.specs.Driver.{Says}
use Rattle.scp_again.specs.scp_ledger.specs.Seen.{LedgerView}
use Rattle.scp_again.specs.scp_ledger.specs.Decisions.{OnePerSlot}
use Rattle.scp_again.specs.scp_apply.specs.Applied.{AreInOrder, made_of}
use Rattle.scp_again.specs.scp_apply.specs.Applier.{next_of}
use Rattle.scp_again.specs.scp_core.specs.declared.config.Config.{Config}
use Rattle.scp_again.specs.scp_core.specs.declared.event.Event.{Event}
use Rattle.scp_again.specs.scp_core.specs.History.{Exchange}
use Rattle.scp_again.specs.scp_core.specs.Headline.{HoldsHeadlineFrom, state_shown}
use Rattle.scp_again.specs.scp_core.specs.Ledger.{HoldsLedgerFrom}
use Rattle.scp_again.specs.scp_core.specs.Node.{NodeView, Step}
use Rattle.scp_again.specs.scp_core.specs.Theorem.{LedgerTheoremFrom}
use Rattle.scp_epoch.specs.Epoch.{BeginsBehind, StandsLike, TakesUp}
use Rattle.scp_epoch.specs.Played.{ArePlayed}
use Rattle.scp_epoch.specs.Life.{Epoch, IsLife, heard_in, applied_in}
use Rattle.scp_epoch.specs.Saying.{SaysTheSame, said_at}

module _ {D S : Type 0} (says : Says D) (said : List ℕ → S) (after' : S → List ℕ → S) where
  -- Over a whole life the slots from its first one on are applied, in order, without a gap.
  abbrev pub LivesApplyInOrder : Type 0
  LivesApplyInOrder = (first : ℕ) (base : List ℕ) (epochs : List (Epoch D)) → IsLife says said after' first base epochs → AreInOrder first (applied_in epochs)

  -- No slot is applied twice in a life.
  abbrev pub LivesApplyOnce : Type 0
  LivesApplyOnce = (first : ℕ) (base : List ℕ) (epochs : List (Epoch D)) → IsLife says said after' first base epochs → OnePerSlot (applied_in epochs)

  -- The state that the last node of a life shows is what all applied values of the life make of the state with which the life began.
  abbrev pub LivesShowOneState : Type 0
  LivesShowOneState =
      (first : ℕ) (base : List ℕ) (epochs : List (Epoch D)) (last : Epoch D) → IsLife says said after' first base (epochs ++ last ∷ []) → last.end.failed ≡ false → state_shown (said last.end.applier.base) after' last.end ≡ Some (made_of (said base) after' (applied_in (epochs ++ last ∷ [])))

  -- The ledger theorem holds of each epoch of a life, over all that its node heard.
  abbrev pub LivesHoldTheirLedgers : Type 0
  LivesHoldTheirLedgers =
      (first : ℕ) (base : List ℕ) (epochs : List (Epoch D)) → IsLife says said after' first base epochs → AllByRecursion (λ (e : Epoch D). HoldsLedgerFrom says e.start.applier.first e.start.applier.base (heard_in e) e.end) epochs

  -- So does the headline.
  abbrev pub LivesHoldTheirHeadlines : Type 0
  LivesHoldTheirHeadlines =
      (first : ℕ) (base : List ℕ) (epochs : List (Epoch D)) → IsLife says said after' first base epochs → AllByRecursion (λ (e : Epoch D). HoldsHeadlineFrom (Step says) said after' e.start.applier.first e.start.applier.base (heard_in e) e.end) epochs

module _ {D S : Type 0} (says : Says D) (said : List ℕ → S) (after' : S → List ℕ → S) where
  -- A node that begins with the slot that another one applies next, and with bytes that say that one's state, and to which events were played,
  -- began behind it.
  abbrev pub WhatBeginsSoBeginsBehind : Type 0
  WhatBeginsSoBeginsBehind =
      (driver : D) (c : Config) (base : List ℕ) (old node new : NodeView D) (events : List Event) (heard : List Exchange)
      → old.failed ≡ false → node.config ≡ c → node.ledger.driver ≡ driver → LedgerTheoremFrom says (next_of old.applier) base [] node → said base ≡ made_of (said old.applier.base) after' old.applier.applied
      → ArePlayed says events node heard new → new.failed ≡ false → BeginsBehind says said after' driver c old events heard new

  -- A node that began behind another one, and stands like it, takes it up.
  abbrev pub WhatStandsLikeTakesUp : Type 0
  WhatStandsLikeTakesUp = (driver : D) (c : Config) (old : NodeView D) (events : List Event) (heard : List Exchange) (new : NodeView D) → BeginsBehind says said after' driver c old events heard new → StandsLike old new → TakesUp says said after' driver c old events heard new

-- Two ledgers of one node that say the same would say the same messages once more, of each open slot.
abbrev pub TheSameIsSaidAgain : Type 0 → Type 0
TheSameIsSaidAgain D = (first : ℕ) (old new : LedgerView D) (slot : ℕ) → SaysTheSame first old new → new.me ≡ old.me → first ≤ slot → slot < first + WINDOW → said_at new slot ≡ said_at old slot
