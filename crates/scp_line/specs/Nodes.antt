-- What the nodes of a script hear from line to line, while the script is played.
use Rattle.std.specs.Prelude.{ℕ, ◌+◌, ◌<◌, ◌≡◌, ◌≢◌, ◌⊎◌, Bool, true, false, List, Option, Some, None, Result, Ok, Err, length, slice_get}
use Rattle.scp_turn.specs.scp_types.specs.declared.fault.Fault.TheVariants.{NoMemory, Failed as failing, Full as full}
use Rattle.scp_turn.specs.scp_core.specs.declared.event.Event.{Event}
use Rattle.scp_turn.specs.scp_core.specs.declared.event.Reply.{Reply}
use Rattle.scp_turn.specs.scp_core.specs.declared.event.Reply.TheVariants.{Accepted, Full}
use Rattle.scp_turn.specs.scp_types.specs.Range.{AreInRange}
use Rattle.scp_turn.specs.scp_core.specs.Kv.{NodeView}
use Rattle.scp_turn.specs.declared.watch.NoWatch.{NoWatch}
use Rattle.scp_turn.specs.Watch.{unwatched}
use Rattle.scp_turn.specs.Kv.{Noting}
use Rattle.scp_turn.specs.Heard.{Nodes, Heard, Noted, With}
use Rattle.scp_turn.specs.Rounds.{RestsAs, Breaks, AllRun}
use Rattle.scp_turn.specs.Network.{Hear, NetworkView}
use Rattle.scp_report.specs.scp_script.specs.declared.command.Command.{Command}
use Rattle.scp_report.specs.scp_script.specs.declared.command.Command.TheVariants as script
use Rattle.scp_report.specs.scp_script.specs.Script.{node_count}
use Rattle.scp_report.specs.scp_script.specs.Nodes.{IsSmall, capacities_in}
use Rattle.scp_line.specs.declared.playing.PlayFault.{PlayFault}
use Rattle.scp_line.specs.Links.{AreLinked}
use Rattle.scp_line.specs.Play.{AreNew, Answers, ArePlayed, Stops, Overflows, driven_in, event_by, config_of}

-- the capacities that the commands give are in range
abbrev pub HaveRoom : List Command → Type 0
HaveRoom commands = AreInRange (capacities_in commands)

-- The nodes of a script as they were made, with the links on which the script alone sends.
pub record AreMade (commands : List Command) (network : NetworkView) : Type 0 where
  pub nodes : AreNew commands network.nodes
  pub driven : network.driven ≡ driven_in commands

-- each node has the configuration that the script gives it: its id, its quorum set, its peers and its capacities
abbrev pub AreWho : List Command → Nodes → Type 0
AreWho commands nodes = (i : ℕ) → (v : NodeView) → slice_get nodes i ≡ Some v → v.config ≡ config_of commands (i + 1)

-- A network played the lines `done` of a script, from the first line on. None of its nodes failed. Each has the configuration that the script
-- gives it, and its links are as these lines left them.
pub record HasPlayed (commands done : List Command) (network : NetworkView) : Type 0 where
  pub heard : List Heard
  pub played : ArePlayed commands done heard network.nodes
  pub count : length network.nodes ≡ node_count commands
  pub driven : network.driven ≡ driven_in commands
  pub who : AreWho commands network.nodes
  pub linked : AreLinked done network.nodes

-- the line brings the nodes to rest
abbrev pub brings_to_rest : Command → Bool
brings_to_rest (script.Caps capacities) = false
brings_to_rest (script.Nodes count quorum) = false
brings_to_rest (script.Set at set) = false
brings_to_rest (script.Open from to) = false
brings_to_rest (script.Close from to) = false
brings_to_rest (script.Send from to bytes) = false
brings_to_rest (script.Propose at slot value) = false
brings_to_rest (script.Round at slot) = false
brings_to_rest (script.Timer at slot) = false
brings_to_rest (script.Tick at) = false
brings_to_rest (script.Ask from to slot) = false
brings_to_rest script.Settle = true
brings_to_rest (script.Wait at things) = true
brings_to_rest (script.Report at) = false

-- ---- what a line makes the nodes hear, from one moment to the next

-- a network, and the watch that sees its steps
pub record Watching (W : Type 0) : Type 0 where
  pub network : NetworkView
  pub watch : W

-- a network, and the watch that sees its steps
abbrev pub moment : {W : Type 0} → NetworkView → W → Watching W
moment {W} network watch = record { network = network; watch = watch }

-- The nodes heard more events, for which `Is` holds, and the watch noted each step of it. The links that the script drives are the same as
-- before.
abbrev pub Goes : {W : Type 0} → Noting W → Watching W → Watching W → (Nodes → List Heard → Nodes → Type 0) → Type 0
Goes {W} Note old new Is = Hear old.network.nodes new.network.nodes (With (Noted Note old.watch new.watch) Is) × (new.network.driven ≡ old.network.driven)

-- Nobody hears the line's event: the line has none, or no node has its number.
abbrev pub IsMissed : NetworkView → Option (ℕ × Event) → Type 0
IsMissed network None = Unit {0}
IsMissed network (Some offered) = (offered.0 ≡ 0) ⊎ (length network.nodes < offered.0)

-- The line's event was offered to its node, and the result is the node's number with its reply. There is no result where nobody hears the
-- event; then nothing changed.
abbrev pub Offers : {W : Type 0} → Noting W → Watching W → Command → Option (ℕ × Reply) → Watching W → Type 0
Offers {W} Note old command None new = (new ≡ old) × IsMissed old.network (event_by command)
Offers {W} Note old command (Some answer) new = (event : Event) × (event_by command ≡ Some (answer.0, event)) × Goes Note old new (Answers (answer.0, event) answer.1)

-- The nodes came to rest, or stopped after the last round that they may do, and none failed. Or a node failed, which the fault names.
abbrev pub Settles : {W : Type 0} → Noting W → Watching W → Watching W → Result Bool PlayFault → Type 0
Settles {W} Note old new (Ok calm) = Goes Note old new (RestsAs old.network.driven (length old.network.nodes) calm) × AllRun new.network.nodes
Settles {W} Note old new (Err e) = (e.fault ≡ failing) × Goes Note old new (Breaks old.network.driven (length old.network.nodes) e.node)

-- out of memory, with no node named
abbrev pub IsWant : PlayFault → Type 0
IsWant e = (e.fault ≡ NoMemory) × (e.node ≡ 0)

-- A line's event was offered, and the answer is `calm`, which says whether the nodes came to rest so far. Where the event's queue was full,
-- `IfFull` says what was done then. The faults are: out of memory; a node that neither took the event nor was full; and those of `IfFull`.
abbrev pub Tries : {W : Type 0} → Noting W → Bool → (Watching W → Watching W → Result Bool PlayFault → Type 0) → Watching W → Command → Watching W → Result Bool PlayFault → Type 0
Tries {W} Note calm IfFull old command new (Ok answer) =
    ((answer ≡ calm) × Offers Note old command None new)
    ⊎ (((number : ℕ) × (answer ≡ calm) × Offers Note old command (Some (number, Accepted)) new)
    ⊎ ((number : ℕ) × (mid : Watching W) × Offers Note old command (Some (number, Full)) mid × IfFull mid new (Ok answer)))
Tries {W} Note calm IfFull old command new (Err e) =
    IsWant e
    ⊎ (((reply : Reply) × (reply ≢ Accepted) × (reply ≢ Full) × Offers Note old command (Some (e.node, reply)) new)
    ⊎ ((number : ℕ) × (mid : Watching W) × Offers Note old command (Some (number, Full)) mid × IfFull mid new (Err e)))

-- The line was abandoned: nothing changed, the fault is `Full`, and no node is named.
abbrev pub GivesUp : {W : Type 0} → Watching W → Watching W → Result Bool PlayFault → Type 0
GivesUp {W} old new (Ok answer) = ⊥
GivesUp {W} old new (Err e) = (new ≡ old) × (e.fault ≡ full) × (e.node ≡ 0)

-- The nodes came to rest, stopped after the last round, or one failed. Where none failed, the event was offered once more.
abbrev pub ActsAgain : {W : Type 0} → Noting W → Watching W → Command → Watching W → Result Bool PlayFault → Type 0
ActsAgain {W} Note old command new result =
    ((e : PlayFault) × (result ≡ Err e) × Settles Note old new (Err e))
    ⊎ ((mid : Watching W) × (calm : Bool) × Settles Note old mid (Ok calm) × Tries Note calm GivesUp mid command new result)

-- A line was done, and the watch noted each step of it; or the result says why it wasn't done.
abbrev pub Acts : {W : Type 0} → Noting W → Watching W → Command → Watching W → Result Bool PlayFault → Type 0
Acts {W} Note old command new result =
    ((brings_to_rest command ≡ true) × Settles Note old new result)
    ⊎ ((brings_to_rest command ≡ false) × Tries Note true (λ mid last done. ActsAgain Note mid command last done) old command new result)

-- A line was done without a watch, or the result says why it wasn't done.
abbrev pub ActsAlone : NetworkView → Command → NetworkView → Result (Unit {0}) PlayFault → Type 0
ActsAlone old command new (Ok done) = (calm : Bool) × (before after' : NoWatch) × Acts unwatched (moment old before) command (moment new after') (Ok calm)
ActsAlone old command new (Err e) = (before after' : NoWatch) × Acts unwatched (moment old before) command (moment new after') (Err e)

-- Why the line after these wasn't done: out of memory, a node failed at this line, or the line's queue was full even after the nodes came to
-- rest.
abbrev pub IsStoppedAt : List Command → List Command → PlayFault → Type 0
IsStoppedAt commands before e =
    IsWant e
    ⊎ (((e.fault ≡ failing) × IsSmall e.node × (s : Stops commands e.node) × (s.before ≡ before))
    ⊎ ((e.fault ≡ full) × (e.node ≡ 0) × (o : Overflows commands) × (o.before ≡ before)))
