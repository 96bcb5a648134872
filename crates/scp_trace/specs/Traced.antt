-- What a trace shows of a script's run, line by line (this project's profile).
use Rattle.std.specs.Prelude.{false, ℕ, ◌≡◌, ◌≢◌, List, [], ◌∷◌, ◌++◌, Option, Some, None, length, slice_get, string_bytes}
use Rattle.scp_line.specs.scp_types.specs.declared.fault.Fault.TheVariants.{NoMemory as no_memory}
use Rattle.scp_line.specs.scp_turn.specs.Heard.{Nodes as NodeList, Heard, Noted}
use Rattle.scp_line.specs.scp_script.specs.declared.command.Command.{Command}
use Rattle.scp_line.specs.scp_script.specs.declared.command.Command.TheVariants.{Report}
use Rattle.scp_line.specs.declared.playing.PlayFault.{PlayFault}
use Rattle.scp_line.specs.Play.{AreNew}
use Rattle.scp_line.specs.Nodes.{IsStoppedAt}
use Rattle.scp_script_check.specs.Lines.{IsSaid}
use Rattle.scp_script_check.specs.Warnings.{AreWarnings}
use Rattle.scp_script_check.specs.Texts.{warnings_text}
use Rattle.scp_script_check.specs.declared.warning.Warning.{Warning}
use Rattle.scp_stand_node.specs.scp_stand_slot.specs.declared.names.Names.{Names}
use Rattle.scp_stand_node.specs.scp_stand_slot.specs.Names.{AreNames}
use Rattle.scp_trace_text.specs.scp_facts.specs.declared.fact.Telling.{Telling}
use Rattle.scp_trace_text.specs.scp_facts.specs.Telling.{Tells}
use Rattle.scp_trace_text.specs.Facts.{facts_text}
use Rattle.scp_trace.specs.declared.depth.Depth.{Depth}
use Rattle.scp_trace.specs.declared.depth.Depth.TheVariants.{Stands, Whole}
use Rattle.scp_trace.specs.declared.playing.Traced.{Traced}
use Rattle.scp_trace.specs.Lines.{line_text}
use Rattle.scp_trace.specs.Standing.{Moment, beginning, Follows, HavePlayed, TellsNode, IsEnd}

-- ---- one line

-- What is shown of a line itself. If only where nodes stand is asked for, it is the `report` lines alone.
abbrev pub line_part : Depth → Names → ℕ → Command → List ℕ
line_part Whole names line command = line_text names line command
line_part Stands names line (Report number) = line_text names line (Report number)
line_part Stands names line command = []

-- What is shown of what a line's steps did, with the nodes as they are then. If only where nodes stand is asked for, it is nothing.
abbrev pub facts_part : Depth → Names → ℕ → NodeList → List Telling → List ℕ
facts_part Whole names line nodes tellings = facts_text names line nodes tellings
facts_part Stands names line nodes tellings = []

-- these are exactly the facts of what the nodes did, from these nodes to the later ones
abbrev pub AreFacts : List Telling → NodeList → List Heard → NodeList → Type 0
AreFacts tellings old heard new = Noted Tells [] tellings old heard new

-- After a `report` line the text shows where its node stands at this moment, after the lines before it. After any other line there is
-- nothing.
abbrev pub IsStandBehind : Names → List Command → List Command → Moment → Command → List ℕ → Type 0
IsStandBehind names all before now (Report number) text = HavePlayed all before now × TellsNode names all before now.nodes number text
IsStandBehind names all before now command text = text ≡ []

-- What is shown of a line, after those before it, from this moment to the next, at the depth that is asked for. It is the line, then the
-- facts of each of its steps, with the nodes as they are at the next moment. After a report it is also where the node stands.
pub record IsPiece (depth : Depth) (names : Names) (all before : List Command) (now next : Moment) (line : ℕ) (command : Command) (text : List ℕ) : Type 0 where
  pub follows : Follows all command now next
  pub tellings : List Telling
  pub told : AreFacts tellings now.nodes follows.more next.nodes
  pub stand : List ℕ
  pub stands : IsStandBehind names all before now command stand
  pub is : text ≡ line_part depth names line command ++ (facts_part depth names line next.nodes tellings ++ stand)

-- ---- lines

-- What is shown of these commands, in the lines of these numbers, one after the other, after those before them. It is one run, from this
-- moment to the last.
abbrev pub AreTold : Depth → Names → List Command → List Command → Moment → List ℕ → List Command → List ℕ → Moment → Type 0
AreTold depth names all before now lines [] text last = (text ≡ []) × (last ≡ now)
AreTold depth names all before now [] (command ∷ commands) text last = ⊥
AreTold depth names all before now (line ∷ lines) (command ∷ commands) text last =
    (piece : List ℕ) × (rest : List ℕ) × (next : Moment) × (text ≡ piece ++ rest) × IsPiece depth names all before now next line command piece
    × AreTold depth names all (before ++ command ∷ []) next lines commands rest last

-- A run starts with a script's nodes as they were made. This text is shown of the first of its lines, up to a moment of the run.
pub record IsRun (depth : Depth) (names : Names) (all : List Command) (lines : List ℕ) (done : List Command) (text : List ℕ) (last : Moment) : Type 0 where
  pub first : NodeList
  pub new : AreNew all first
  pub told : AreTold depth names all [] (beginning first) lines done text last

-- ---- all that is shown

-- All lines were played, in one run. The text is what is shown of them, then the end, at the last moment of the run, and then the lines of
-- the script's warnings.
pub record IsWhole (depth : Depth) (names : Names) (commands : List Command) (lines text : List ℕ) : Type 0 where
  pub last : Moment
  pub pieces : List ℕ
  pub run : IsRun depth names commands lines commands pieces last
  pub ending : List ℕ
  pub ended : IsEnd false names commands last ending
  pub warnings : List Warning
  pub warned : AreWarnings commands lines warnings
  pub is : text ≡ pieces ++ ending ++ warnings_text warnings

-- A line wasn't done. The text is what is shown of the lines before it, in one run, then that line and the facts of what the nodes did of it.
-- The nodes are as they were then. `stopped` says why the line wasn't done; memory isn't the reason.
pub record IsCutOff (depth : Depth) (names : Names) (commands : List Command) (lines text : List ℕ) (fault : PlayFault) : Type 0 where
  pub before : List Command
  pub command : Command
  pub after' : List Command
  pub split : commands ≡ before ++ command ∷ after'
  pub line : ℕ
  pub at : slice_get lines (length before) ≡ Some line
  pub last : Moment
  pub pieces : List ℕ
  pub run : IsRun depth names commands lines before pieces last
  pub more : List Heard
  pub nodes : NodeList
  pub tellings : List Telling
  pub told : AreFacts tellings last.nodes more nodes
  pub is : text ≡ pieces ++ (line_part depth names line command ++ facts_part depth names line nodes tellings)
  pub named : fault.fault ≢ no_memory
  pub stopped : IsStoppedAt commands before fault

-- what is shown: of the whole run, or up to the fault that stopped it
abbrev pub IsTracedTo : Depth → Option PlayFault → Names → List Command → List ℕ → List ℕ → Type 0
IsTracedTo depth None names commands lines text = IsWhole depth names commands lines text
IsTracedTo depth (Some fault) names commands lines text = IsCutOff depth names commands lines text fault

-- The text is a script without a bad line, and this is shown of its run, at the depth that is asked for, with names of its quorum sets. It
-- goes to the end, or up to the fault that stopped the run.
pub record IsTraced (depth : Depth) (text : List ℕ) (traced : Traced) : Type 0 where
  pub commands : List Command
  pub lines : List ℕ
  pub said : IsSaid text commands lines
  pub names : Names
  pub named : AreNames commands names
  pub to : IsTracedTo depth traced.fault names commands lines (string_bytes traced.text)
