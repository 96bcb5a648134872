-- Which line a fate of a command is of (this project's profile).
use Rattle.std.specs.Prelude.{ℕ, ◌+◌, ◌≡◌, List, [], Some, flat_map, slice_get}
use Rattle.scp_turn.specs.scp_wire.specs.declared.link.Command.{Command as LocalCommand}
use Rattle.scp_turn.specs.scp_pending.specs.Endings.{commands_in}
use Rattle.scp_turn.specs.scp_ledger.specs.Runs.{Taking}
use Rattle.scp_turn.specs.Commands.{TakenCommand, command_taken, commands_taken, fates_taken, given_in, AreInTurn}
use Rattle.scp_turn.specs.scp_core.specs.Kv.{NodeView, LedgerTheorem}
use Rattle.scp_turn.specs.Kv.{Does, taken_over}
use Rattle.scp_turn.specs.Heard.{Nodes, Heard, past_at}
use Rattle.scp_threaded_script.specs.scp_gather.specs.Kv.{Left, NodeReport, AreFatesOf}
use Rattle.scp_threaded_script.specs.Lines.{commands_for}
use Rattle.scp_threaded_script.specs.Reported.{AreNodesReported}
use Rattle.scp_report.specs.scp_script.specs.declared.command.Command.{Command}
use Rattle.scp_report.specs.scp_script.specs.Nodes.{id_of, peers_of, set_at}
use Rattle.scp_report.specs.scp_script.specs.Script.{node_count}
use Rattle.scp_line.specs.Play.{ArePlayed}

-- the commands that the lines give to the node of this number, in the order of the lines; a tick has no fate, and is left out
abbrev pub commands_to : ℕ → List Command → List LocalCommand
commands_to number commands = commands_in (commands_for number commands)

-- ---- one step after another

-- Where nodes played these lines, the commands that a node was given are those that the lines give it.
abbrev pub LinesAreGiven : Type 0
LinesAreGiven = (commands done : List Command) (heard : List Heard) (nodes : Nodes) → ArePlayed commands done heard nodes → (number : ℕ) → given_in (past_at number heard) ≡ commands_to number done

-- The commands that its slot stage took in the steps that it heard, from the node as it was made, are the first of those that the lines give it,
-- each once, in the order of the lines. The others wait.
abbrev pub FatesAreOfTheirLines : Type 0
FatesAreOfTheirLines =
    (commands done : List Command) (heard : List Heard) (nodes : Nodes) → ArePlayed commands done heard nodes → (number : ℕ) (old new : NodeView) → LedgerTheorem [] old → (does : Does old (past_at number heard) new) → AreInTurn (commands_to number done) (taken_over old (past_at number heard) new does) new

-- ---- in threads

-- the commands among the things that a slot stage took, each with its fate, in order
abbrev pub taken_among : List Taking → List TakenCommand
taken_among takes = flat_map (λ t. command_taken t.thing t.gave.command) takes

-- The fates that the report of the node of this number shows are those of the commands that the lines give it, one each, in the order of the
-- lines: what its ledger reported of each of them when it took it.
pub record HasFatesOfLines (commands : List Command) (number : ℕ) (r : NodeReport) : Type 0 where
  pub left : Left
  pub fates : AreFatesOf (id_of number) (set_at number commands) (peers_of (node_count commands) number) left r.commands.items
  pub commands_are : commands_taken (taken_among fates.told.takes) ≡ commands_to number commands
  pub fates_are : fates_taken (taken_among fates.told.takes) ≡ r.commands.items

-- So it is of each node of a script that is reported.
abbrev pub ReportedAreOfTheirLines : Type 0
ReportedAreOfTheirLines = (commands : List Command) (all : List NodeReport) → AreNodesReported commands all → (i : ℕ) (r : NodeReport) → slice_get all i ≡ Some r → HasFatesOfLines commands (i + 1) r
