-- The notices of a script whose nodes ran in threads (this project's profile).
use Rattle.std.specs.Prelude.{ℕ, ◌+◌, ◌≡◌, ◌≢◌, Bool, true, false, List, [], ◌∷◌, ◌++◌, flat_map, length, map, option_to_list, slice_get, Some, if◌then◌else◌}
use Rattle.std.specs.List.{list_any}
use Rattle.scp_line.specs.scp_types.specs.declared.fault.Fault.TheVariants.{NoMemory as no_memory}
use Rattle.scp_line.specs.scp_gather.specs.Kv.{NodeReport}
use Rattle.scp_line.specs.scp_report.specs.Report.{ReportView}
use Rattle.scp_line.specs.Left.{reports_left}
use Rattle.scp_line.specs.scp_threaded_script.specs.Reported.{AreNodesReported, IsGivenUp}
use Rattle.scp_line.specs.scp_threaded_script.specs.Waits.{AreWaits}
use Rattle.scp_line.specs.scp_script.specs.declared.command.Command.{Command}
use Rattle.scp_line.specs.scp_script.specs.declared.command.Command.TheVariants.{Wait}
use Rattle.scp_line.specs.scp_script.specs.Script.{node_count}
use Rattle.scp_line.specs.declared.playing.PlayFault.{PlayFault}
use Rattle.scp_line.specs.Commands.{HasFatesOfLines, taken_among}
use Rattle.scp_script_check.specs.declared.reading.Script.{Script}
use Rattle.scp_script_check.specs.Lines.{IsSaid, IsNotRead}
use Rattle.scp_notices.specs.declared.commands.Told.{Told}
use Rattle.scp_notices.specs.declared.notice.Notice.{Notice}
use Rattle.scp_notices.specs.declared.notice.Notice.TheVariants.{GaveUp, NoWait}
use Rattle.scp_notices.specs.declared.playing.RunFault.{RunFault}
use Rattle.scp_notices.specs.declared.playing.RunFault.TheVariants.{Unread, Stopped, GivenUp}
use Rattle.scp_notices.specs.Ignoring.{told_from}
use Rattle.scp_notices.specs.Nodes.{nodes_notices}
use Rattle.scp_notices.specs.Own.{AreOfTheirLines}

-- the command is a `wait` line
abbrev pub is_wait : Command → Bool
is_wait (Wait node things) = true
is_wait command = false

-- a notice, if no command is a `wait` line
abbrev pub no_wait : List Command → List Notice
no_wait commands = if list_any is_wait commands then [] else NoWait ∷ []

-- a notice for the line of the command at this place
abbrev pub gave_up_at : List ℕ → ℕ → List Notice
gave_up_at lines place = map (λ line. GaveUp line) (option_to_list (slice_get lines place))

-- the same for each of these places
abbrev pub gave_up : List ℕ → List ℕ → List Notice
gave_up lines places = flat_map (gave_up_at lines) places

-- what the nodes reported of their commands, from their records, that of node 1 first
abbrev pub told_in : List ReportView → List Told
told_in reports = told_from 1 (map (λ report. report.commands) reports)

-- The notices of a run in threads, from the records of its nodes and the places of the `wait` lines that gave up. First come these lines, then
-- the notices that both ways to run a script have, and last that there is no `wait` line.
abbrev pub threads_notices : List Command → List ℕ → List ReportView → List ℕ → List Notice
threads_notices commands lines reports places =
    gave_up lines places
    ++ (nodes_notices commands lines (told_in reports) reports
    ++ no_wait commands)

-- The reports are those of a script's nodes, and the notices are made from the records of these nodes. The fate that a notice shows for a line
-- is that of the line's command. Of the `wait` lines that gave up it is known only that they are some of the `wait` lines, in their order. Of
-- the losses it is known only that there is a row for each node.
pub record ShowsThreads (commands : List Command) (lines : List ℕ) (reports : List NodeReport) (notices : List Notice) : Type 0 where
  pub reported : AreNodesReported commands reports
  pub places : List ℕ
  pub waits : AreWaits commands 0 places
  pub losses : List (List ℕ)
  pub losses_count : length losses ≡ node_count commands
  pub own : (i : ℕ) (r : NodeReport) → slice_get reports i ≡ Some r → HasFatesOfLines commands (i + 1) r
  pub of_lines : (i : ℕ) (r : NodeReport) → (at : slice_get reports i ≡ Some r)
      → AreOfTheirLines commands (told_in (reports_left commands reports losses)) (i + 1) (taken_among (own i r at).fates.told.takes)
  pub notices_are : notices ≡ threads_notices commands lines (reports_left commands reports losses) places

-- the text is a script without a bad line, and the reports and notices are those of its nodes
pub record IsRanInThreads (text : List ℕ) (script : Script) (reports : List NodeReport) (notices : List Notice) : Type 0 where
  pub said : IsSaid text script.commands.items script.lines.items
  pub shows : ShowsThreads script.commands.items script.lines.items reports notices

-- the nodes of the script in this text ended with this fault, which isn't out of memory
abbrev pub IsEndedOf : List ℕ → PlayFault → Type 0
IsEndedOf text fault = (commands : List Command) × (lines : List ℕ) × IsSaid text commands lines × IsGivenUp commands (record { fault = fault.fault; node = fault.node }) × (fault.fault ≢ no_memory)

-- Why a text isn't played in threads: its first bad line, out of memory to read or to play it, or a fault of its nodes. Out of memory is
-- possible only for the texts that `IsNotRead` says.
abbrev pub IsThreadsFault : List ℕ → RunFault → Type 0
IsThreadsFault text (Unread fault) = IsNotRead text fault
IsThreadsFault text (Stopped line fault) = ⊥
IsThreadsFault text (GivenUp fault) = IsEndedOf text fault
