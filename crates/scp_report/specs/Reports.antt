-- The reports that a script asks for.
use Rattle.std.specs.Prelude.{ℕ, ◌-◌, List, flat_map, slice_get, option_to_list}
use Rattle.scp_script.specs.declared.command.Command.{Command}
use Rattle.scp_script.specs.Nodes.{reports_in}
use Rattle.scp_report.specs.Report.{ReportView}
use Rattle.scp_report.specs.Settled.{settled_of}

-- the record of the node of this number, if there is such a node, from the records of all nodes, that of node 1 first
abbrev pub record_at : List ReportView → ℕ → List ReportView
record_at reports number = option_to_list (slice_get reports (number - 1))

-- the records of which the commands ask for a report, in the order of the commands
abbrev pub records_in : List ReportView → List Command → List ReportView
records_in reports commands = flat_map (record_at reports) (reports_in commands)

-- the reports that the commands ask for, in the fixed form
abbrev pub settled_text : List ReportView → List Command → List ℕ
settled_text reports commands = flat_map settled_of (records_in reports commands)
