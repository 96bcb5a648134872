-- Own statements that were replaced or dropped before they were sent (this project's profile).
use Rattle.std.specs.Prelude.{ℕ, ◌-◌, Bool, ◌||◌, List, [], ◌∷◌, Option, Some, None, length, flat_map, nat_eq, slice_get, if◌then◌else◌}
use Rattle.std.specs.List.{list_any}
use Rattle.scp_line.specs.scp_turn.specs.Rounds.{link_of}
use Rattle.scp_line.specs.scp_report.specs.declared.report.LinkReport.{LinkReport}
use Rattle.scp_line.specs.scp_report.specs.Report.{ReportView}
use Rattle.scp_line.specs.scp_script.specs.declared.command.Command.{Command}
use Rattle.scp_line.specs.scp_script.specs.Nodes.{numbers}
use Rattle.scp_script_check.specs.Nodes.{sends_on, is_scripted_in}
use Rattle.scp_notices.specs.declared.notice.Notice.{Notice}
use Rattle.scp_notices.specs.declared.notice.Notice.TheVariants.{Overwritten}

-- Nothing that a node says to another is meant to go out. Either a `send` line names that link, which then carries nothing by itself; or the
-- script alone speaks for the other node.
abbrev pub is_silent : List Command → ℕ → ℕ → Bool
is_silent commands from to = list_any (sends_on from to) commands || is_scripted_in to commands

-- the number of own statements that were lost on a link; 0 if there is no such link
abbrev pub lost_over : Option LinkReport → ℕ
lost_over None = 0
lost_over (Some link) = link.overwritten

-- the number of own statements that a node lost for the peer of each link, as its record has it
abbrev pub losses_of : ReportView → ℕ → ℕ
losses_of report link = lost_over (slice_get report.links link)

-- the count at a link; 0 if there is no such node
abbrev pub lost_by : Option (ℕ → ℕ) → ℕ → ℕ
lost_by None link = 0
lost_by (Some losses) link = losses link

-- The number of own statements of one node for another that were replaced or dropped before they were sent. The nodes are given by their
-- numbers; `nodes` has the losses of each node.
abbrev pub lost_to : List (ℕ → ℕ) → ℕ → ℕ → ℕ
lost_to nodes from to = lost_by (slice_get nodes (from - 1)) (link_of to from)

-- a notice, if the count isn't 0
abbrev pub if_lost : ℕ → ℕ → ℕ → List Notice
if_lost from to count = if nat_eq count 0 then [] else Overwritten from to count ∷ []

-- A notice, if own statements of one node for another were lost, though they were meant to go out.
abbrev pub lost_on : List Command → List (ℕ → ℕ) → ℕ → ℕ → List Notice
lost_on commands nodes from to = if nat_eq from to || is_silent commands from to then [] else if_lost from to (lost_to nodes from to)

-- the notices of one node, in the order of the other nodes' numbers
abbrev pub lost_of : List Command → List (ℕ → ℕ) → ℕ → List Notice
lost_of commands nodes from = flat_map (lost_on commands nodes from) (numbers (length nodes))

-- the notices of all nodes, in the order of their numbers
abbrev pub all_lost : List Command → List (ℕ → ℕ) → List Notice
all_lost commands nodes = flat_map (lost_of commands nodes) (numbers (length nodes))
