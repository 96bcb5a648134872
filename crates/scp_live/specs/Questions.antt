-- The answers to a host that asks about the state of a node (this project's profile).
use Rattle.std.specs.Prelude.{ℕ, zero, suc, ◌-◌, List, [], ◌++◌, length, drop, flat_map}
use Rattle.scp_again.specs.scp_types.specs.declared.names.NodeId.{NodeId}
use Rattle.scp_again.specs.scp_core.specs.Node.{accepts_at, lives_at}
use Rattle.scp_again.specs.scp_core.specs.Kv.{NodeView}
use Rattle.scp_turn.specs.Turn.{links_of}
use Rattle.scp_live_lines.specs.Names.{name_at}
use Rattle.scp_live_lines.specs.Fates.{fate_line}
use Rattle.scp_live_lines.specs.Decisions.{applied_line}
use Rattle.scp_live_lines.specs.Timers.{running}
use Rattle.scp_live_lines.specs.State.{lowest_line, applied_count_line, journal_line, warning_lines, link_line, idle_line, key_line}
use Rattle.scp_report.specs.Report.{ReportView}
use Rattle.scp_report.specs.Node.{report_of as record_of}
use Rattle.scp_live.specs.Live.{LiveView}
use Rattle.scp_live.specs.Idle.{idle_at}

-- The line of each link, in order: whether the node accepts what its peer sends, and how many times it was opened.
abbrev pub link_lines : LiveView → ℕ → List ℕ
link_lines v zero = []
link_lines v (suc l) = link_lines v l ++ link_line (name_at v.names l) (accepts_at v.node l) (lives_at v.node l)

-- The line of each peer, in order: how many entries of the journal it sent that changed nothing.
abbrev pub idle_lines : LiveView → ℕ → List ℕ
idle_lines v zero = []
idle_lines v (suc l) = idle_lines v l ++ idle_line (name_at v.names l) (idle_at v.node l)

-- The state of a node: the lowest undecided slot, the number of applied slots, the length of the journal, the links, how much each peer sent
-- that changed nothing, and the timers that run.
abbrev pub state_of : LiveView → List ℕ
state_of v =
    lowest_line v.node.ledger.lowest ++ applied_count_line (length v.node.applier.applied)
    ++ journal_line (length v.node.ledger.journal) ++ warning_lines (length v.node.ledger.journal)
    ++ link_lines v (links_of v.node) ++ idle_lines v (links_of v.node) ++ running v.timers

-- The line of each slot from this one on that the node applied.
abbrev pub applied_from : NodeView → ℕ → List ℕ
applied_from v slot = flat_map applied_line (drop (slot - v.applier.first) v.applier.applied)

-- The lines that the record of a node has in a report: what became of each message that came, in the order of the journal; each applied slot;
-- and each key of the state with its value. These peers have these names, in order.
abbrev pub report_lines : List (List ℕ) → List NodeId → ReportView → List ℕ
report_lines names peers r = flat_map (fate_line names peers) r.journal ++ flat_map applied_line r.applied ++ flat_map key_line r.state

-- The report of a live node: the lines of its record, which is that of node 1.
abbrev pub report_of : LiveView → List ℕ
report_of v = report_lines v.names v.node.config.peers (record_of 1 v.node)
