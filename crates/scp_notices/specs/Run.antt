-- What a run of a script shows, and the notices of it (this project's profile).
use Rattle.std.specs.Prelude.{ℕ, ◌≡◌, ◌≢◌, Bool, List, [], ◌∷◌, ◌++◌, Some, length, map, slice_get, if◌then◌else◌}
use Rattle.scp_line.specs.scp_types.specs.declared.limits.TheConstants.{ROUND_LIMIT}
use Rattle.scp_line.specs.scp_types.specs.declared.fault.Fault.TheVariants.{NoMemory as no_memory}
use Rattle.scp_line.specs.scp_core.specs.Kv.{NodeView}
use Rattle.scp_line.specs.scp_turn.specs.Network.{NetworkView}
use Rattle.scp_line.specs.scp_script.specs.declared.command.Command.{Command}
use Rattle.scp_line.specs.declared.playing.PlayFault.{PlayFault}
use Rattle.scp_line.specs.Nodes.{IsStoppedAt}
use Rattle.scp_line.specs.Player.{Lining, IsRun}
use Rattle.scp_line.specs.scp_report.specs.Report.{ReportView}
use Rattle.scp_line.specs.scp_report.specs.Node.{reports_of}
use Rattle.scp_script_check.specs.declared.reading.Script.{Script}
use Rattle.scp_script_check.specs.Lines.{IsSaid, IsNotRead}
use Rattle.scp_notices.specs.declared.commands.Told.{Told}
use Rattle.scp_notices.specs.declared.notice.Notice.{Notice}
use Rattle.scp_notices.specs.declared.notice.Notice.TheVariants.{Unsettled}
use Rattle.scp_notices.specs.declared.playing.RunFault.{RunFault}
use Rattle.scp_notices.specs.declared.playing.RunFault.TheVariants.{Unread, Stopped, GivenUp}
use Rattle.scp_notices.specs.Ignoring.{Tells}
use Rattle.scp_notices.specs.Nodes.{nodes_notices}
use Rattle.scp_notices.specs.Own.{ReportsOwn}

-- ---- a run, line by line

-- What is noted of a run: what the slot stages reported of commands, and the lines in which the nodes didn't come to rest.
pub record Notes : Type 0 where
  pub told : List Told
  pub cut : List ℕ

-- nothing yet
abbrev pub nothing_noted : Notes
nothing_noted = record { told = []; cut = [] }

-- the lines that were cut off, and also this one if the nodes didn't come to rest in it
abbrev pub with_cut : List ℕ → ℕ → Bool → List ℕ
with_cut cut line calm = if calm then cut else cut ++ line ∷ []

-- What is noted of a line: what the slot stages report, in the order of the steps. The line also counts as cut off if the nodes didn't come
-- to rest in it. Then something moved or was sent in each of 100,000 rounds.
abbrev pub noticing : Lining Notes
noticing = record {
  begins = λ old line command nodes new. new ≡ old;
  steps = λ old number event reply before after' new. Tells old.told number event reply before after' new.told × (new.cut ≡ old.cut);
  ends = λ old line command calm nodes new. new ≡ record old { cut = with_cut old.cut line calm };
}

-- ---- its notices

-- a notice for each line in which the nodes didn't come to rest
abbrev pub unsettled : List ℕ → List Notice
unsettled cut = map (λ line. Unsettled line ROUND_LIMIT) cut

-- The notices of a run, from the records of its nodes: first the lines that were cut off, and then those that both ways to run a script have.
abbrev pub run_notices : List Command → List ℕ → List ReportView → List Told → List ℕ → List Notice
run_notices commands lines reports told cut = unsettled cut ++ nodes_notices commands lines told reports

-- The nodes played all commands, and the notices are those of that run. The fate that a notice shows for a line is that of the line's command.
pub record Shows (commands : List Command) (lines : List ℕ) (network : NetworkView) (notices : List Notice) : Type 0 where
  pub noted : Notes
  pub run : IsRun noticing commands lines network nothing_noted noted
  pub own : (place : ℕ) (node : NodeView) → slice_get network.nodes place ≡ Some node → ReportsOwn commands run.played.heard noted.told place node
  pub notices_are : notices ≡ run_notices commands lines (reports_of network.nodes) noted.told noted.cut

-- The text is a script without a bad line, the nodes played all its lines, and the notices are those of that run.
pub record IsRan (text : List ℕ) (script : Script) (network : NetworkView) (notices : List Notice) : Type 0 where
  pub said : IsSaid text script.commands.items script.lines.items
  pub shows : Shows script.commands.items script.lines.items network notices

-- Another watch noted the lines of the same run too: what the nodes heard is the same.
pub record IsWatched {W : Type 0} (L : Lining W) (commands : List Command) (lines : List ℕ) (network : NetworkView) (notices : List Notice) (shows : Shows commands lines network notices) (old new : W) : Type 0 where
  pub run : IsRun L commands lines network old new
  pub one : run.played.heard ≡ shows.run.played.heard

-- ---- a script that isn't played to its end

-- The command in the line of this number wasn't done, after those before it were. The reason is a node that failed, or a queue without room;
-- it isn't memory.
pub record IsStoppedIn (commands : List Command) (lines : List ℕ) (line : ℕ) (fault : PlayFault) : Type 0 where
  pub before : List Command
  pub command : Command
  pub after' : List Command
  pub split : commands ≡ before ++ command ∷ after'
  pub place : slice_get lines (length before) ≡ Some line
  pub named : fault.fault ≢ no_memory
  pub stopped : IsStoppedAt commands before fault

-- the same for the commands of this text
abbrev pub IsStoppedOf : List ℕ → ℕ → PlayFault → Type 0
IsStoppedOf text line fault = (commands : List Command) × (lines : List ℕ) × IsSaid text commands lines × IsStoppedIn commands lines line fault

-- Why a text isn't played to its end: its first bad line, out of memory to read or to play it, or a line that wasn't done. Out of memory is
-- possible only for the texts that `IsNotRead` says.
abbrev pub IsRunFault : List ℕ → RunFault → Type 0
IsRunFault text (Unread fault) = IsNotRead text fault
IsRunFault text (Stopped line fault) = IsStoppedOf text line fault
IsRunFault text (GivenUp fault) = ⊥
