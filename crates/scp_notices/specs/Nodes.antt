-- The notices that both ways to run a script have (this project's profile).
use Rattle.std.specs.Prelude.{ℕ, List, ◌++◌, map}
use Rattle.scp_line.specs.scp_report.specs.Report.{ReportView}
use Rattle.scp_line.specs.scp_script.specs.declared.command.Command.{Command}
use Rattle.scp_notices.specs.declared.commands.Told.{Told}
use Rattle.scp_notices.specs.declared.notice.Notice.{Notice}
use Rattle.scp_notices.specs.Disagreeing.{disagreements}
use Rattle.scp_notices.specs.Ignoring.{ignored}
use Rattle.scp_notices.specs.Lost.{losses_of, all_lost}

-- The notices of nodes with these records, whose slot stages reported this of their commands, in this order: the lines whose commands did
-- nothing, the slots for which nodes applied different values, and the links whose own statements were lost.
abbrev pub nodes_notices : List Command → List ℕ → List Told → List ReportView → List Notice
nodes_notices commands lines told reports =
    ignored told lines commands
    ++ (disagreements (map (λ report. report.applied) reports)
    ++ all_lost commands (map losses_of reports))
