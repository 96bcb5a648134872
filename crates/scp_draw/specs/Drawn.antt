-- The page of a script's run (this project's profile).
use Rattle.std.specs.Prelude.{ℕ, ◌≡◌, ◌≢◌, true, List, ◌++◌}
use Rattle.scp_trace.specs.scp_types.specs.declared.fault.Fault.TheVariants.{NoMemory as no_memory}
use Rattle.scp_trace.specs.scp_turn.specs.Network.{NetworkView}
use Rattle.scp_trace.specs.scp_script.specs.declared.command.Command.{Command}
use Rattle.scp_trace.specs.scp_script.specs.Script.{node_count}
use Rattle.scp_trace.specs.scp_line.specs.declared.playing.PlayFault.{PlayFault}
use Rattle.scp_trace.specs.scp_line.specs.Nodes.{IsStoppedAt}
use Rattle.scp_trace.specs.scp_script_check.specs.Lines.{IsSaid, IsNotRead}
use Rattle.scp_trace.specs.scp_script_check.specs.Texts.{warnings_text}
use Rattle.scp_trace.specs.scp_script_check.specs.Warnings.{AreWarnings}
use Rattle.scp_trace.specs.scp_script_check.specs.declared.warning.Warning.{Warning}
use Rattle.scp_trace.specs.scp_stand_slot.specs.declared.names.Names.{Names}
use Rattle.scp_trace.specs.scp_stand_slot.specs.Names.{AreNames}
use Rattle.scp_trace.specs.Playing.{moment_at}
use Rattle.scp_trace.specs.Standing.{IsEnd}
use Rattle.scp_trace.specs.scp_facts.specs.declared.fact.Telling.{Telling}
use Rattle.scp_draw.specs.Page.{page_text}
use Rattle.scp_draw.specs.Lines.{IsTelling}
use Rattle.scp_draw.specs.declared.drawing.DrawFault.{DrawFault}
use Rattle.scp_draw.specs.declared.drawing.DrawFault.TheVariants.{Unread, Stopped}

-- The nodes of a script played all its lines. The page shows all facts of them, line by line, then where each of them stands at the end and
-- the script's warnings, with names of its quorum sets.
pub record IsPageOf (commands : List Command) (lines page : List ℕ) : Type 0 where
  pub names : Names
  pub named : AreNames commands names
  pub network : NetworkView
  pub tellings : List Telling
  pub told : IsTelling commands lines network tellings
  pub ending : List ℕ
  pub ended : IsEnd true names commands (moment_at told.played.heard network) ending
  pub warnings : List Warning
  pub warned : AreWarnings commands lines warnings
  pub is : page ≡ page_text names network.nodes tellings (node_count commands) (ending ++ warnings_text warnings)

-- the text is a script without a bad line, and this is the page of its run
pub record IsDrawn (text page : List ℕ) : Type 0 where
  pub commands : List Command
  pub lines : List ℕ
  pub said : IsSaid text commands lines
  pub page_is : IsPageOf commands lines page

-- a script without a bad line was stopped by this fault, at the line after these; memory isn't the reason
pub record IsStopped (commands : List Command) (fault : PlayFault) : Type 0 where
  pub before : List Command
  pub named : fault.fault ≢ no_memory
  pub stopped : IsStoppedAt commands before fault

-- Why nothing is drawn of a text: it can't be read, it is out of memory to read or draw it, or a fault stopped the script. Out of memory is
-- possible only for the texts that `IsNotRead` says.
abbrev pub IsDrawFault : List ℕ → DrawFault → Type 0
IsDrawFault text (Unread fault) = IsNotRead text fault
IsDrawFault text (Stopped fault) = (commands : List Command) × (lines : List ℕ) × IsSaid text commands lines × IsStopped commands fault
