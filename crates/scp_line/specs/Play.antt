-- What playing a script means, and which line shows a message.
use Rattle.std.specs.Prelude.{ℕ, ◌+◌, ◌-◌, ◌<◌, ◌≤◌, ◌≡◌, ◌⊎◌, Bool, true, List, [], ◌∷◌, ◌++◌, Option, Some, None, Err, flat_map, fold, length, codes, slice_get, get_or, option_map}
use Rattle.std.specs.Fmt.{decimal}
use Rattle.scp_turn.specs.scp_types.specs.declared.limits.TheConstants.{NODE_LIMIT}
use Rattle.scp_turn.specs.scp_types.specs.declared.fault.Fault.{Fault}
use Rattle.scp_turn.specs.scp_types.specs.declared.fault.Fault.TheVariants.{Malformed, Failed, Refused}
use Rattle.scp_turn.specs.scp_quorum.specs.QuorumKind.{set_hash}
use Rattle.scp_turn.specs.scp_envelope.specs.declared.statement.Statement.{Statement}
use Rattle.scp_turn.specs.scp_envelope.specs.declared.statement.Pledges.{Pledges}
use Rattle.scp_turn.specs.scp_envelope.specs.declared.statement.Pledges.TheVariants.{Prepare, Confirm, Externalize, Nominate}
use Rattle.scp_turn.specs.scp_wire.specs.declared.message.Message.{Message}
use Rattle.scp_turn.specs.scp_wire.specs.declared.message.Message.TheVariants.{Envelope, GetSet, Set, NoSet, GetRecord, Record, Records}
use Rattle.scp_turn.specs.scp_wire.specs.declared.link.Command.{Command as LocalCommand}
use Rattle.scp_turn.specs.scp_wire.specs.Message.{message_reading}
use Rattle.scp_turn.specs.scp_wire.specs.Reading.{reading_of}
use Rattle.scp_turn.specs.scp_core.specs.declared.config.Config.{Config}
use Rattle.scp_turn.specs.scp_core.specs.declared.event.Event.{Event}
use Rattle.scp_turn.specs.scp_core.specs.declared.event.Event.TheVariants as event
use Rattle.scp_turn.specs.scp_core.specs.declared.event.Reply.{Reply}
use Rattle.scp_turn.specs.scp_core.specs.declared.event.Reply.TheVariants.{Accepted, Full}
use Rattle.scp_turn.specs.scp_core.specs.Node.{LinkView, is_full}
use Rattle.scp_turn.specs.scp_core.specs.Kv.{NodeView, LedgerTheorem, HoldsLedger}
use Rattle.scp_threaded_script.specs.Lines.{local_by}
use Rattle.scp_report.specs.scp_script.specs.declared.command.Command.{Command}
use Rattle.scp_report.specs.scp_script.specs.declared.command.Command.TheVariants as script
use Rattle.scp_report.specs.scp_script.specs.Words.{hex_bytes}
use Rattle.scp_report.specs.scp_script.specs.Script.{commands_in, node_count}
use Rattle.scp_report.specs.scp_script.specs.Nodes.{id_of, peers_of, set_at, capacities_in}
use Rattle.scp_report.specs.scp_words.specs.Words.{hex_word}
use Rattle.scp_report.specs.Node.{reports_of}
use Rattle.scp_report.specs.Reports.{settled_text}
use Rattle.scp_turn.specs.Heard.{Nodes, Heard, HaveHeard, past_at, Then, IsNothing, IsOne}
use Rattle.scp_turn.specs.Rounds.{link_of, Rests, RestsAs, Breaks, AllRun}
use Rattle.scp_turn.specs.Network.{driven_more, none_driven}

-- The number of the node that hears a command, and the event that it hears. Some commands are no event.
abbrev pub event_by : Command → Option (ℕ × Event)
event_by (script.Open from to) = Some (to, event.Open (link_of from to))
event_by (script.Close from to) = Some (to, event.Close (link_of from to))
event_by (script.Send from to bytes) = Some (to, event.Send (link_of from to) bytes)
event_by command = option_map (λ (given : ℕ × LocalCommand). (given.0, event.Local given.1)) (local_by command)

-- the links on which the script alone sends: those that a `send` line names
abbrev pub driven_by : List Bool → Command → List Bool
driven_by driven (script.Send from to bytes) = driven_more driven from to
driven_by driven command = driven

-- the links on which the script alone sends: those that a `send` line names
abbrev pub driven_in : List Command → List Bool
driven_in commands = fold driven_by none_driven commands

-- the node of this number heard this event, and gave this reply
abbrev pub Answers : ℕ × Event → Reply → Nodes → List Heard → Nodes → Type 0
Answers offered reply = IsOne (record { node = offered.0; event = offered.1; reply = reply })

-- A line's event was accepted by its node. Either the node accepted it at once, or the queue was full. Then the nodes came to rest, or
-- stopped after the last round, as `calm` says, and the node accepted the event.
abbrev pub IsOffered : List Bool → ℕ → Bool → ℕ × Event → Nodes → List Heard → Nodes → Type 0
IsOffered driven count calm offered old heard new =
    ((calm ≡ true) × Answers offered Accepted old heard new) ⊎ Then (Answers offered Full) (Then (RestsAs driven count calm) (Answers offered Accepted)) old heard new

-- What the nodes hear of a line's event: nothing if the line has none, else what offering the event says.
abbrev pub HearsBy : List Bool → ℕ → Bool → Option (ℕ × Event) → Nodes → List Heard → Nodes → Type 0
HearsBy driven count calm None old heard new = (calm ≡ true) × IsNothing old heard new
HearsBy driven count calm (Some offered) old heard new = IsOffered driven count calm offered old heard new

-- What the nodes heard of a line. `calm` says whether they came to rest where the line brought them to it.
abbrev pub HearsAs : List Bool → ℕ → Bool → Command → Nodes → List Heard → Nodes → Type 0
HearsAs driven count calm script.Settle = RestsAs driven count calm
HearsAs driven count calm (script.Wait at things) = RestsAs driven count calm
HearsAs driven count calm command = HearsBy driven count calm (event_by command)

-- what the nodes heard of a line
abbrev pub Hears : List Bool → ℕ → Command → Nodes → List Heard → Nodes → Type 0
Hears driven count command old heard new = (calm : Bool) × HearsAs driven count calm command old heard new

-- what the nodes heard of these lines, one after the other
abbrev pub Played : List Bool → ℕ → List Command → Nodes → List Heard → Nodes → Type 0
Played driven count [] = IsNothing
Played driven count (command ∷ commands) = Then (Hears driven count command) (Played driven count commands)

-- The configuration of the node of this number: its id, its quorum set, its peers, and the capacities of its queues.
abbrev pub config_of : List Command → ℕ → Config
config_of commands number = record {
  me = id_of number;
  set = set_at number commands;
  peers = peers_of (node_count commands) number;
  capacities = capacities_in commands;
}

-- The node of this number as it was made: it has the configuration that the script gives it, and has heard nothing.
pub record IsNew (commands : List Command) (number : ℕ) (node : NodeView) : Type 0 where
  pub config : node.config ≡ config_of commands number
  pub theorem : LedgerTheorem [] node

-- As many nodes as the script has, each as it was made.
pub record AreNew (commands : List Command) (nodes : Nodes) : Type 0 where
  pub count : length nodes ≡ node_count commands
  pub each : (i : ℕ) → (d : NodeView) → i < length nodes → IsNew commands (i + 1) (get_or nodes i d)

-- The nodes of a script played the lines `done`, from the first line on. They heard what the lines say, one line after the other. The ledger
-- theorem holds of each node for all that it heard, and none has failed.
pub record ArePlayed (commands done : List Command) (heard : List Heard) (nodes : Nodes) : Type 0 where
  pub first : Nodes
  pub new : AreNew commands first
  pub played : Played (driven_in commands) (node_count commands) done first heard nodes
  pub have : HaveHeard heard nodes
  pub run : AllRun nodes

-- the queue of this link to the node of this number is full
abbrev pub IsLinkFull : Nodes → ℕ → ℕ → Type 0
IsLinkFull nodes number link = (node : NodeView) × (slice_get nodes (number - 1) ≡ Some node) × (k : LinkView) × (slice_get node.links link ≡ Some k) × is_full k

-- the inbox of the node of this number is full
abbrev pub IsInboxFull : Nodes → ℕ → Type 0
IsInboxFull nodes number = (node : NodeView) × (slice_get nodes (number - 1) ≡ Some node) × (length node.inbox ≡ node.inbox_room)

-- The queue that receives a line's event is full: the queue of a link, or the inbox of a node.
abbrev pub HasNoRoom : Nodes → Command → Type 0
HasNoRoom nodes (script.Caps capacities) = ⊥
HasNoRoom nodes (script.Nodes count quorum) = ⊥
HasNoRoom nodes (script.Set at set) = ⊥
HasNoRoom nodes (script.Open from to) = IsLinkFull nodes to (link_of from to)
HasNoRoom nodes (script.Close from to) = IsLinkFull nodes to (link_of from to)
HasNoRoom nodes (script.Send from to bytes) = IsLinkFull nodes to (link_of from to)
HasNoRoom nodes (script.Propose at slot value) = IsInboxFull nodes at
HasNoRoom nodes (script.Round at slot) = IsInboxFull nodes at
HasNoRoom nodes (script.Timer at slot) = IsInboxFull nodes at
HasNoRoom nodes (script.Tick at) = IsInboxFull nodes at
HasNoRoom nodes (script.Ask from to slot) = IsInboxFull nodes from
HasNoRoom nodes script.Settle = ⊥
HasNoRoom nodes (script.Wait at things) = ⊥
HasNoRoom nodes (script.Report at) = ⊥

-- The queue of the line's event was full, and the node of this number failed while the nodes came to rest.
abbrev pub BreaksBy : List Bool → ℕ → ℕ → Option (ℕ × Event) → Nodes → List Heard → Nodes → Type 0
BreaksBy driven count number None old heard new = ⊥
BreaksBy driven count number (Some offered) old heard new = Then (Answers offered Full) (Breaks driven count number) old heard new

-- what the nodes heard of a line at which the node of this number failed
abbrev pub LineBreaks : List Bool → ℕ → ℕ → Command → Nodes → List Heard → Nodes → Type 0
LineBreaks driven count number script.Settle = Breaks driven count number
LineBreaks driven count number (script.Wait at things) = Breaks driven count number
LineBreaks driven count number command = BreaksBy driven count number (event_by command)

-- The node of this number failed at one of the script's lines. All lines before it were done.
pub record Stops (commands : List Command) (number : ℕ) : Type 0 where
  pub before : List Command
  pub command : Command
  pub after' : List Command
  pub split : commands ≡ before ++ command ∷ after'
  pub heard : List Heard
  pub nodes : Nodes
  pub played : ArePlayed commands before heard nodes
  pub more : List Heard
  pub new : Nodes
  pub breaks : LineBreaks (driven_in commands) (node_count commands) number command nodes more new
  pub have : HaveHeard (heard ++ more) new

-- A line of a script found no room. All lines before it were done. Its event was offered to a full queue, the nodes came to rest, and the
-- queue was still full.
pub record Overflows (commands : List Command) : Type 0 where
  pub before : List Command
  pub command : Command
  pub after' : List Command
  pub split : commands ≡ before ++ command ∷ after'
  pub heard : List Heard
  pub nodes : Nodes
  pub played : ArePlayed commands before heard nodes
  pub more : List Heard
  pub new : Nodes
  pub offered : ℕ × Event
  pub is : event_by command ≡ Some offered
  pub refused : Then (Answers offered Full) (Then (Rests (driven_in commands) (node_count commands)) (Answers offered Full)) nodes more new
  pub have : HaveHeard (heard ++ more) new
  pub full : HasNoRoom new command

-- each node holds its ledger, of all that it heard
abbrev pub HoldLedgers : List Heard → Nodes → Type 0
HoldLedgers heard nodes = (i : ℕ) → (d : NodeView) → i < length nodes → HoldsLedger (past_at (i + 1) heard) (get_or nodes i d)

-- The text is the reports that the script asks for: one for each `report` line, in the order of the lines. The nodes played all lines of the
-- script, and each holds its ledger.
pub record AreReports (script text : List ℕ) : Type 0 where
  pub heard : List Heard
  pub nodes : Nodes
  pub played : ArePlayed (commands_in script) (commands_in script) heard nodes
  pub ledgers : HoldLedgers heard nodes
  pub reports : text ≡ settled_text (reports_of nodes) (commands_in script)

-- the word of a statement's kind
abbrev pub pledges_word : Pledges → List ℕ
pledges_word (Prepare p) = codes "prepare"
pledges_word (Confirm p) = codes "confirm"
pledges_word (Externalize p) = codes "externalize"
pledges_word (Nominate p) = codes "nominate"

-- the node, the slot and the kind of a statement
abbrev pub statement_words : Statement → List ℕ
statement_words s = hex_word s.node.0 ++ codes " " ++ decimal s.slot.0 ++ codes " " ++ pledges_word s.pledges

-- a value of a batch, after a space
abbrev pub value_word : List ℕ → List ℕ
value_word value = codes " " ++ hex_word value

-- The line of a message: the number and the word of its kind, and what it says. A quorum set is shown by its hash.
abbrev pub message_line : Message → List ℕ
message_line (Envelope envelope) = codes "1 envelope " ++ statement_words envelope.value.statement ++ codes "\n"
message_line (GetSet hash) = codes "2 getset " ++ hex_word hash.0 ++ codes "\n"
message_line (Set set) = codes "3 set " ++ hex_word (set_hash set) ++ codes "\n"
message_line (NoSet hash) = codes "4 noset " ++ hex_word hash.0 ++ codes "\n"
message_line (GetRecord slot) = codes "5 getrecord " ++ decimal slot.0 ++ codes "\n"
message_line (Record slot value) = codes "6 record " ++ decimal slot.0 ++ codes " " ++ hex_word value ++ codes "\n"
message_line (Records first values) = codes "7 records " ++ decimal first.0 ++ flat_map value_word values ++ codes "\n"

-- the text is the line of the message that these hex digits encode
pub record IsShown (digits text : List ℕ) : Type 0 where
  pub bytes : List ℕ
  pub message : Message
  pub spelt : hex_bytes digits ≡ Some bytes
  pub read : reading_of bytes ≡ Some message
  pub line : text ≡ message_line message

-- The fault of bytes that aren't a message. For a word that isn't hex digits, the fault is `Malformed` at 0.
abbrev pub IsUnreadBytes : Option (List ℕ) → Fault → Type 0
IsUnreadBytes (Some bytes) fault = message_reading bytes ≡ Err fault
IsUnreadBytes None fault = fault ≡ Malformed 0

-- The fault of digits that can't be shown: `Malformed` at 0 if they aren't hex digits, else the fault of their bytes.
abbrev pub IsUnread : List ℕ → Fault → Type 0
IsUnread digits fault = IsUnreadBytes (hex_bytes digits) fault

-- A node, from 1 to 8, is named for a failure of a node or of one of its stages; for every other fault the number is 0.
abbrev pub IsNamed : ℕ → Fault → Type 0
IsNamed node Failed = (1 ≤ node) × (node ≤ NODE_LIMIT)
IsNamed node (Refused stage) = (1 ≤ node) × (node ≤ NODE_LIMIT)
IsNamed node fault = node ≡ 0
