-- The account of a node (this project's profile).
use Rattle.std.specs.Prelude.{ℕ, List, map, codes}
use Rattle.serde_json.specs.Data.{Data, array, object, member, no_members}
use Rattle.serde_json.specs.View.{items_of}
use Rattle.scp_line.specs.scp_ledger.specs.declared.journal.Decision.{Decision}
use Rattle.scp_line.specs.scp_report.specs.Report.{ReportView}
use Rattle.scp_facts.specs.declared.happening.Happening.{Happening}
use Rattle.scp_facts.specs.Taken.{ticks}
use Rattle.scp_account.specs.declared.node.Mode.{Mode}
use Rattle.scp_account.specs.declared.node.Mode.TheVariants.{Serial, Threads}
use Rattle.scp_account.specs.Pieces.{count, digits, id_json, set_json}
use Rattle.scp_account.specs.Arrived.{arrivals_json}
use Rattle.scp_account.specs.Commands.{fate_json}
use Rattle.scp_account.specs.Decisions.{decision_json}
use Rattle.scp_account.specs.Entries.{entry_json}
use Rattle.scp_account.specs.Links.{links_json}
use Rattle.scp_account.specs.Parked.{parked_json, waiting_json}
use Rattle.scp_account.specs.Taken.{taken_json}

-- An applied slot with its value.
abbrev pub applied_json : Decision → Data
applied_json d = object (member (codes "slot") (count d.slot.0) (member (codes "value") (digits d.value) no_members))

-- A key of the state with its value.
abbrev pub key_json : List ℕ × List ℕ → Data
key_json entry = object (member (codes "key") (digits entry.0) (member (codes "value") (digits entry.1) no_members))

-- The account of a node that took one step after another, and at which this happened. It has the applied slots from slot 1 on, and the
-- decisions in their order, with the entries that justify them. It has the node's id, its links, at most a hundred, what waits, its own quorum
-- set, and its state, ascending by key. It has what its slot stage took, in order, and the number of ticks.
abbrev pub serial_json : ReportView → List Happening → Data
serial_json r happenings =
    object (member (codes "applied") (array (items_of (map applied_json r.applied)))
    (member (codes "decisions") (array (items_of (map (decision_json r.me r.journal) r.decisions)))
    (member (codes "id") (id_json r.me)
    (member (codes "links") (array (items_of (links_json happenings 0 r.links)))
    (member (codes "node") (count r.node)
    (member (codes "parked") (array (items_of (map parked_json r.parked)))
    (member (codes "set") (set_json r.set)
    (member (codes "state") (array (items_of (map key_json r.state)))
    (member (codes "taken") (array (items_of (taken_json r.journal happenings)))
    (member (codes "ticks") (count (ticks happenings)) no_members))))))))))

-- The account of a node whose stages ran in threads. It has the applied decisions from slot 1 on, with the entries that justify them. It has
-- what became of the node's commands except ticks, in order, and the node's id. It has its links with what came on each, and the waiting
-- messages, ascending by sender, life and number. It has its own quorum set, its state, ascending by key, and its journal. The order of
-- commands and journal entries among each other isn't known.
abbrev pub threads_json : ReportView → Data
threads_json r =
    object (member (codes "applied") (array (items_of (map (decision_json r.me r.journal) r.decisions)))
    (member (codes "commands") (array (items_of (map fate_json r.commands)))
    (member (codes "id") (id_json r.me)
    (member (codes "links") (array (items_of (arrivals_json r.came 0 r.links)))
    (member (codes "node") (count r.node)
    (member (codes "parked") (array (items_of (map waiting_json r.messages)))
    (member (codes "set") (set_json r.set)
    (member (codes "state") (array (items_of (map key_json r.state)))
    (member (codes "taken") (array (items_of (map entry_json r.journal))) no_members)))))))))

-- The account of a node, by how it ran, and from what happened at it. What happened isn't part of the account of threads.
abbrev pub node_json : Mode → ReportView → List Happening → Data
node_json Serial r happenings = serial_json r happenings
node_json Threads r happenings = threads_json r
