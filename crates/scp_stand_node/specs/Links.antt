-- The lines of a node's links that aren't open, of its queues, and of what it didn't send (this project's profile).
use Rattle.std.specs.Prelude.{ℕ, zero, suc, Bool, false, List, [], ◌∷◌, ◌++◌, Option, Some, None, length, codes, nat_eq, nat_lt, flat_map, option_to_list, slice_get, get_or, if◌then◌else◌}
use Rattle.std.specs.Fmt.{decimal}
use Rattle.std.specs.List.{list_any}
use Rattle.scp_turn.specs.scp_types.specs.declared.names.ConnId.{ConnId}
use Rattle.scp_turn.specs.scp_types.specs.declared.names.NodeId.{NodeId}
use Rattle.scp_turn.specs.scp_wire.specs.declared.link.Cause.{Cause}
use Rattle.scp_turn.specs.scp_wire.specs.declared.link.Cause.TheVariants.{Malformed, Link, Spent, ParkedFull}
use Rattle.scp_turn.specs.scp_wire.specs.Connections.{conn_at, same_conn}
use Rattle.scp_turn.specs.scp_ledger.specs.declared.journal.Fate.{Fate}
use Rattle.scp_turn.specs.scp_ledger.specs.declared.journal.Fate.TheVariants.{Taken, Dropped, Closed}
use Rattle.scp_turn.specs.scp_core.specs.declared.config.Config.{Config}
use Rattle.scp_turn.specs.scp_core.specs.History.{peer_at}
use Rattle.scp_turn.specs.scp_core.specs.Node.{lives_at, queued_at}
use Rattle.scp_turn.specs.scp_core.specs.Kv.{NodeView}
use Rattle.scp_turn.specs.Turn.{links_of}
use Rattle.scp_turn.specs.scp_outbox.specs.Handing.{waiting_at}
use Rattle.scp_stand_slot.specs.scp_script.specs.declared.command.Command.{Command}
use Rattle.scp_stand_slot.specs.scp_script.specs.declared.command.Command.TheVariants as script
use Rattle.scp_stand_slot.specs.scp_script.specs.Script.{is_link, is_open}
use Rattle.scp_stand_slot.specs.declared.names.Names.{Names}
use Rattle.scp_stand_slot.specs.Names.{node_name}
use Rattle.scp_stand_node.specs.declared.stand.Lines.{Lines}

-- ---- the links

-- What is told of this many links, in order, from the first one on.
abbrev pub of_links : (ℕ → List ℕ) → ℕ → List ℕ
of_links told zero = []
of_links told (suc link) = of_links told link ++ told link

-- The nodes at the other ends of this many links that pass a test, in order.
abbrev pub peers_with : Config → (ℕ → Bool) → ℕ → List NodeId
peers_with config test zero = []
peers_with config test (suc link) = peers_with config test link ++ (if test link then peer_at config link ∷ [] else [])

-- ---- links that were never open, or whose last connection has ended

-- The word for why a connection ended.
abbrev pub cause_word : Cause → List ℕ
cause_word Malformed = codes "malformed"
cause_word Link = codes "link"
cause_word Spent = codes "spent"
cause_word ParkedFull = codes "parked-full"

-- Why the connection ended, if this entry says so.
abbrev pub cause_by : ConnId → Fate → Option Cause
cause_by conn (Taken of seq message set verdict) = None
cause_by conn (Dropped of seq cause) = None
cause_by conn (Closed of cause) = if same_conn of conn then Some cause else None

-- Why the connection ended, from the first entry of the journal that says so.
abbrev pub ended_by : ConnId → List Fate → Option Cause
ended_by conn journal = slice_get (flat_map (λ fate. option_to_list (cause_by conn fate)) journal) 0

-- The line of a link from another node that was never open.
abbrev pub never_line : Names → NodeId → NodeId → List ℕ
never_line names me from = node_name names me ++ codes " from " ++ node_name names from ++ codes " never\n"

-- The line of a connection that ended. There is none for one that is open.
abbrev pub closed_text : Names → NodeId → NodeId → ℕ → Option Cause → List ℕ
closed_text names me from life None = []
closed_text names me from life (Some cause) = node_name names me ++ codes " from " ++ node_name names from ++ codes " closed " ++ decimal life ++ codes " " ++ cause_word cause ++ codes "\n"

-- The connection of this life on a link.
abbrev pub conn_on : NodeView → ℕ → ℕ → ConnId
conn_on v link life = conn_at (peer_at v.config link) v.config.me life

-- The line of a link that was never open, or whose last connection has ended. There is none for an open link.
abbrev pub link_text : Names → NodeView → ℕ → List ℕ
link_text names v link =
    if nat_eq (lives_at v link) 0 then never_line names v.config.me (peer_at v.config link)
    else closed_text names v.config.me (peer_at v.config link) (lives_at v link) (ended_by (conn_on v link (lives_at v link)) v.ledger.journal)

-- ---- what is in queues

-- The line of how much is in a queue, if there is anything.
abbrev pub queue_text : Names → NodeId → List ℕ → ℕ → List ℕ
queue_text names me word count = if nat_lt 0 count then node_name names me ++ codes " queued " ++ word ++ codes " " ++ decimal count ++ codes "\n" else []

-- The line of how much is in the queue of the link from another node.
abbrev pub link_queue_line : Names → NodeId → NodeId → ℕ → List ℕ
link_queue_line names me from count = node_name names me ++ codes " queued link " ++ node_name names from ++ codes " " ++ decimal count ++ codes "\n"

-- The same line of this link, if there is anything in its queue.
abbrev pub queued_on : Names → NodeView → ℕ → List ℕ
queued_on names v link = if nat_lt 0 (queued_at v link) then link_queue_line names v.config.me (peer_at v.config link) (queued_at v link) else []

-- The lines of what no settle moved: on links, in the inbox, ready for the slots' machines, and decided.
abbrev pub queues_text : Names → NodeView → List ℕ
queues_text names v =
    of_links (queued_on names v) (links_of v)
    ++ queue_text names v.config.me (codes "inbox") (length v.inbox)
    ++ queue_text names v.config.me (codes "ready") (length v.ready)
    ++ queue_text names v.config.me (codes "decided") (length v.decided)

-- ---- a script

-- The lines of the script in which a node plays: all of them, and those that were played so far.
pub record ScriptLines : Type 0 where
  pub all : List Command
  pub played : List Command

-- The lines that a call is given, if the node plays in a script.
abbrev pub script_of : Option Lines → Option ScriptLines
script_of None = None
script_of (Some lines) = Some (record { all = lines.all.now; played = lines.played.now })

-- The number that a script has for the node with this id: each byte of the id.
abbrev pub number_in : NodeId → ℕ
number_in id = get_or id.0 0 0

-- ---- what wasn't sent

-- The command sends on this link.
abbrev pub sends : ℕ → ℕ → Command → Bool
sends from to (script.Caps capacities) = false
sends from to (script.Nodes count quorum) = false
sends from to (script.Set at set) = false
sends from to (script.Open at other) = false
sends from to (script.Close at other) = false
sends from to (script.Send at other bytes) = is_link from to at other
sends from to (script.Propose at slot value) = false
sends from to (script.Round at slot) = false
sends from to (script.Timer at slot) = false
sends from to (script.Tick at) = false
sends from to (script.Ask at other slot) = false
sends from to script.Settle = false
sends from to (script.Wait at things) = false
sends from to (script.Report at) = false

-- Why a message for another node isn't sent. `driven`: the script itself sends on that link. `open`: the link is open by the lines
-- played, but no settle came yet. `shut`: the link isn't open. A node that plays in no script sends at once on each open link.
abbrev pub why_unsent : Option ScriptLines → ℕ → ℕ → List ℕ
why_unsent None from to = codes "shut"
why_unsent (Some lines) from to =
    if list_any (sends from to) lines.all then codes "driven"
    else (if is_open from to lines.played then codes "open" else codes "shut")

-- The line of how much there is to send to another node, and why it wasn't sent.
abbrev pub unsent_line : Names → NodeId → NodeId → ℕ → List ℕ → List ℕ
unsent_line names me to count why = node_name names me ++ codes " unsent " ++ node_name names to ++ codes " " ++ decimal count ++ codes " " ++ why ++ codes "\n"

-- The same line of this link, if there is anything to send.
abbrev pub unsent_text : Names → Option ScriptLines → NodeView → ℕ → List ℕ
unsent_text names lines v link =
    if nat_lt 0 (waiting_at v.outboxes link)
    then unsent_line names v.config.me (peer_at v.config link) (waiting_at v.outboxes link) (why_unsent lines (number_in v.config.me) (number_in (peer_at v.config link))) else []
