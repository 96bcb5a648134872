-- Turns and episodes of nodes whose values are operation lists (this project's profile).
use Rattle.std.specs.Prelude.{ℕ, Bool, List}
use Rattle.scp_core.specs.scp_driver.specs.declared.kv_driver.KvDriver.{KvDriver}
use Rattle.scp_core.specs.scp_driver.specs.Kv.{kv_says}
use Rattle.scp_turn.specs.Commands.{TakenCommand}
use Rattle.scp_core.specs.declared.event.Event.{Event}
use Rattle.scp_core.specs.declared.event.Reply.{Reply}
use Rattle.scp_core.specs.History.{Exchange}
use Rattle.scp_core.specs.Kv.{NodeView}
use Rattle.scp_turn.specs.Taking as commands
use Rattle.scp_turn.specs.Turn as turn
use Rattle.scp_turn.specs.Rest as rest
use Rattle.scp_turn.specs.Watch as watch
use Rattle.scp_turn.specs.Episode as episode

-- these exchanges are steps of a node, each from what the one before it left
abbrev pub Does : NodeView → List Exchange → NodeView → Type 0
Does old heard new = turn.Does kv_says old heard new

-- the commands that the slot stage took in these steps, each with its fate, in order
abbrev pub taken_over : (old : NodeView) (heard : List Exchange) (new : NodeView) → Does old heard new → List TakenCommand
taken_over old heard new does = commands.taken_over kv_says old heard new does

-- a node heard more, of which this holds, and the ledger theorem goes on holding
abbrev pub Goes : NodeView → NodeView → (NodeView → List Exchange → NodeView → Type 0) → Type 0
Goes old new Is = turn.Goes kv_says old new Is

-- this many turns, one after the other, in each of which something moved
abbrev pub AreMovingTurns : ℕ → NodeView → List Exchange → NodeView → Type 0
AreMovingTurns n old heard new = rest.AreMovingTurns kv_says n old heard new

-- turns until one moves nothing, or 100,000
abbrev pub Rests : Bool → NodeView → List Exchange → NodeView → Type 0
Rests calm old heard new = rest.Rests kv_says calm old heard new

-- what a watch of this kind notes of a step
abbrev pub Noting : Type 0 → Type 1
Noting W = watch.Noting KvDriver W

-- these exchanges are steps of a node of this number, and a watch noted each of them, in order
abbrev pub Watched : {W : Type 0} → Noting W → ℕ → W → NodeView → List Exchange → NodeView → W → Type 0
Watched Note number w old heard new z = watch.Watched kv_says Note number w old heard new z

-- the commands that such a node's slot stage took in a whole run are the first of those that it was given, each once, in order
abbrev pub AllIsTakenInTurn : Type 0
AllIsTakenInTurn = commands.AllIsTakenInTurn kv_says

-- after an event that was accepted the node comes to rest and what waits goes out; after one that was refused nothing follows
abbrev pub FollowsOn : Reply → NodeView → List Exchange → NodeView → Type 0
FollowsOn reply old heard new = episode.FollowsOn kv_says reply old heard new

-- an episode of an event: its step, and what follows from it
abbrev pub IsEpisode : Event → Reply → NodeView → List Exchange → NodeView → Type 0
IsEpisode event reply old heard new = episode.IsEpisode kv_says event reply old heard new
