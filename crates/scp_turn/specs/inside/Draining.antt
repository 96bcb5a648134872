-- How what waits goes out, link by link.
-- No public clause reaches these definitions: nothing here need be believed.
use Rattle.std.specs.Prelude.{ℕ, ◌≡◌, ◌≢◌, ◌≤◌, List, ◌++◌, Result, OnOk}
use Rattle.scp_core.specs.scp_driver.specs.Driver.{Says}
use Rattle.scp_core.specs.scp_types.specs.declared.fault.Fault.{Fault}
use Rattle.scp_core.specs.declared.event.Event.{Event}
use Rattle.scp_core.specs.declared.event.Reply.{Reply}
use Rattle.scp_core.specs.History.{Exchange}
use Rattle.scp_core.specs.Node.{NodeView}
use Rattle.scp_turn.specs.Watch.{Noting, Watched}
use Rattle.scp_turn.specs.Turn.{Goes, events_of}
use Rattle.scp_turn.specs.declared.sending.Sending.{Sending}
use Rattle.scp_turn.specs.Episode.{AreSent, FollowsOn, sent_in, leaving_at}

-- each of these events sent bytes, and what they sent was added
pub record Drained (events : List Event) (before after' : List Sending) (heard : List Exchange) : Type 0 where
  pub events_are : events_of heard ≡ events
  pub sent : AreSent heard
  pub added : after' ≡ before ++ sent_in heard

module _ {D : Type 0} (says : Says D) where
  -- A node heard something of which this holds, unless it was refused; a watch was shown each step.
  abbrev pub GoesDraws : {W : Type 0} {T : Type 0} → Noting D W → Result T Fault → W → NodeView D → NodeView D → (List Exchange → Type 0) → W → Type 0
  GoesDraws {W} {T} Note result w old new P z = Goes says old new (λ a heard b. OnOk result (P heard) × Watched says Note 1 w a heard b z)

module _ {D : Type 0} where
  -- over each other link as much is leaving as before
  abbrev pub OthersStay : ℕ → NodeView D → NodeView D → Type 0
  OthersStay l a b = (m : ℕ) → m ≢ l → leaving_at b m ≡ leaving_at a m

  -- over the links from this number on as much is leaving as before
  abbrev pub RestStay : ℕ → NodeView D → NodeView D → Type 0
  RestStay l a b = (m : ℕ) → l ≤ m → leaving_at b m ≡ leaving_at a m

module _ {D : Type 0} (says : Says D) where
  -- This followed after an event with that reply, unless it was refused, and what was sent was added; a watch was shown each step.
  abbrev pub GoesFollowed : {W : Type 0} → Noting D W → Result (Unit {0}) Fault → Reply → W → NodeView D → NodeView D → List Sending → List Sending → W → Type 0
  GoesFollowed {W} Note result reply w old new before after' z =
      Goes says old new (λ a heard b. OnOk result (FollowsOn says reply a heard b × (after' ≡ before ++ sent_in heard)) × Watched says Note 1 w a heard b z)
