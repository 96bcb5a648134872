-- What is played to a node that takes up another one: episodes, one after the other (this project's profile).
use Rattle.std.specs.Prelude.{ℕ, zero, suc, ◌≡◌, List, [], ◌∷◌, ◌++◌, map, length, min}
use Rattle.scp_again.specs.scp_driver.specs.Driver.{Says}
use Rattle.scp_again.specs.scp_types.specs.declared.limits.TheConstants.{LINK_LIMIT}
use Rattle.scp_again.specs.scp_core.specs.declared.config.Config.{Config}
use Rattle.scp_again.specs.scp_core.specs.declared.event.Event.{Event}
use Rattle.scp_again.specs.scp_core.specs.declared.event.Event.TheVariants as event
use Rattle.scp_again.specs.scp_core.specs.declared.event.Reply.{Reply}
use Rattle.scp_again.specs.scp_core.specs.History.{Exchange}
use Rattle.scp_again.specs.scp_core.specs.Node.{NodeView}
use Rattle.scp_turn.specs.Episode.{IsEpisode}
use Rattle.scp_turn.specs.Rest.{Then}
use Rattle.scp_epoch.specs.declared.input.Input.{Input}
use Rattle.scp_epoch.specs.declared.input.Input.TheVariants.{Message, Command}

module _ {D : Type 0} (says : Says D) where
  -- An episode of this event, whatever its reply.
  abbrev pub IsPlayed : Event → NodeView D → List Exchange → NodeView D → Type 0
  IsPlayed event old heard new = (reply : Reply) × IsEpisode says event reply old heard new

  -- Episodes of these events, one after the other.
  abbrev pub ArePlayed : List Event → NodeView D → List Exchange → NodeView D → Type 0
  ArePlayed [] old heard new = (heard ≡ []) × (new ≡ old)
  ArePlayed (event ∷ events) old heard new = Then (IsPlayed event) (ArePlayed events) old heard new

-- The event by which a node is given what is carried: a message over its link, or a command.
abbrev pub event_of : Input → Event
event_of (Message link bytes) = event.Send link bytes
event_of (Command command) = event.Local command

-- This many links are opened, in order.
abbrev pub openings : ℕ → List Event
openings zero = []
openings (suc link) = openings link ++ event.Open link ∷ []

-- This many links are closed, in order.
abbrev pub closings : ℕ → List Event
closings zero = []
closings (suc link) = closings link ++ event.Close link ∷ []

-- All that is played to a node of this many links which takes up another one: its links are opened, it is given what is carried, in order, and
-- its links are closed.
abbrev pub carrying : ℕ → List Input → List Event
carrying links inputs = openings links ++ (map event_of inputs ++ closings links)

-- The same of a node of this configuration.
abbrev pub carrying_in : Config → List Input → List Event
carrying_in c inputs = carrying (min (length c.peers) LINK_LIMIT) inputs
