-- What the commands make of their inputs (this project's profile).
use Rattle.std.specs.Prelude.{ℕ, ◌≡◌, ◌&&◌, Bool, true, false, not, nat_eq, List, [], ◌++◌, length, map, flat_map, None, codes, string_bytes}
use Rattle.std.specs.List.{list_all, list_any}
use Rattle.scp_notices.specs.scp_gather.specs.Kv.{NodeReport}
use Rattle.scp_notices.specs.scp_turn.specs.Heard.{Nodes}
use Rattle.scp_notices.specs.scp_turn.specs.Network.{NetworkView}
use Rattle.scp_script_hints.specs.scp_script.specs.declared.command.Command.{Command}
use Rattle.scp_script_hints.specs.scp_script.specs.declared.command.Command.TheVariants.{Report}
use Rattle.scp_notices.specs.scp_line.specs.Headlines.{AreNodesHeadlined, AreReportsHeadlined}
use Rattle.scp_notices.specs.scp_threaded_script.specs.Reported.{AreAllKept}
use Rattle.scp_account.specs.declared.node.Mode.TheVariants as ways
use Rattle.scp_account.specs.Account.{account_text}
use Rattle.scp_draw.specs.scp_facts.specs.declared.happening.Kept.{Kept}
use Rattle.scp_account.specs.Run.{IsKept}
use Rattle.scp_notices.specs.scp_report.specs.Report.{ReportView}
use Rattle.scp_notices.specs.scp_report.specs.Node.{reports_of}
use Rattle.scp_notices.specs.scp_line.specs.Left.{reports_left}
use Rattle.scp_notices.specs.scp_report.specs.Reports.{records_in, settled_text}
use Rattle.scp_notices.specs.scp_report.specs.Text.{text_report_of}
use Rattle.scp_notices.specs.scp_report.specs.Json.{document_text}
use Rattle.scp_notices.specs.declared.notice.Notice.{Notice}
use Rattle.scp_notices.specs.declared.notice.Notice.TheVariants.{Unsettled, GaveUp, Ignored}
use Rattle.scp_notices.specs.Run.{IsRan}
use Rattle.scp_notices.specs.Threads.{IsRanInThreads}
use Rattle.scp_notices.specs.Texts.{notices_text}
use Rattle.scp_script_hints.specs.declared.hint.Hint.{Hint}
use Rattle.scp_script_hints.specs.Hints.{AreHints}
use Rattle.scp_script_hints.specs.Texts.{hints_text}
use Rattle.scp_notices.specs.scp_script_check.specs.declared.reading.Script.{Script}
use Rattle.scp_notices.specs.scp_script_check.specs.declared.warning.Warning.{Warning}
use Rattle.scp_notices.specs.scp_script_check.specs.Lines.{IsSaid}
use Rattle.scp_notices.specs.scp_script_check.specs.Texts.{warnings_text}
use Rattle.scp_notices.specs.scp_script_check.specs.Warnings.{AreWarnings}
use Rattle.scp_draw.specs.scp_trace.specs.declared.depth.Depth.{Depth}
use Rattle.scp_draw.specs.scp_trace.specs.declared.depth.Depth.TheVariants.{Stands, Whole}
use Rattle.scp_draw.specs.scp_trace.specs.declared.playing.Traced.{Traced}
use Rattle.scp_draw.specs.scp_trace.specs.Traced.{IsTraced}
use Rattle.scp_draw.specs.Drawn.{IsDrawn}
use Rattle.scp_script_hints.specs.Told.{members_in, TellsQuorums}
use Rattle.scp_script_short.specs.declared.placed.PlacedLine.{PlacedLine}
use Rattle.scp_script_short.specs.Hexing.{IsHexed}
use Rattle.scp_script_short.specs.scp_script_text.specs.declared.script.Kind.TheVariants.{Nodes as OfNodes, Slot as OfSlot}
use Rattle.scp_script_short.specs.scp_script_text.specs.declared.script.Form.TheVariants.{Hex as AsHex, Text as AsText}
use Rattle.scp_script_short.specs.scp_script_text.specs.Scripts.{is_slot_script, IsScriptOf}
use Rattle.scp_script_slot.specs.declared.script.Script.{Script as SlotScript}
use Rattle.scp_script_slot.specs.Answers.{IsPlayed}
use Rattle.scp_convert.specs.scp_prompt.specs.declared.asked.Task.{Task}
use Rattle.scp_convert.specs.scp_prompt.specs.declared.asked.Task.TheVariants.{Run, Account, Check, Stand, Trace, Draw, Slot, Quorums, Hex, Text}
use Rattle.scp_convert.specs.scp_prompt.specs.declared.asked.Mode.{Mode}
use Rattle.scp_convert.specs.scp_prompt.specs.declared.asked.Mode.TheVariants.{Serial, Threads}
use Rattle.scp_convert.specs.scp_prompt.specs.declared.asked.Shape.{Shape}
use Rattle.scp_convert.specs.scp_prompt.specs.declared.asked.Shape.TheVariants as shapes
use Rattle.scp_command.specs.declared.answer.Answer.{Answer}
use Rattle.scp_command.specs.declared.given.Given.{Given}
use Rattle.scp_command.specs.Given.{IsGiven, placed}

-- the answer is exactly this text, without notices
abbrev pub IsJust : List ℕ → Answer → Type 0
IsJust text answer = (answer.text.items ≡ text) × (string_bytes answer.notices ≡ [])

-- ---- reports

-- the reports that the commands ask for, in this form, from the records of the nodes
abbrev pub reports_text : Shape → List ReportView → List Command → List ℕ
reports_text shapes.Settled reports commands = settled_text reports commands
reports_text shapes.Text reports commands = flat_map text_report_of (records_in reports commands)
reports_text shapes.Json reports commands = document_text (records_in reports commands)

-- a notice with the line of the input, in place of the line of the expanded script
abbrev pub placed_notice : List PlacedLine → Notice → Notice
placed_notice lines (Unsettled line rounds) = Unsettled (placed lines line) rounds
placed_notice lines (GaveUp line) = GaveUp (placed lines line)
placed_notice lines (Ignored line why) = Ignored (placed lines line) why
placed_notice lines notice = notice

-- the command asks for a report
abbrev pub asks_report : Command → Bool
asks_report (Report node) = true
asks_report command = false

-- a node applied no slot
abbrev pub applied_none : ReportView → Bool
applied_none report = nat_eq (length report.applied) 0

-- there are nodes, of which none applied a slot, and no command asks for a report
abbrev pub is_silent : List ReportView → List Command → Bool
is_silent reports commands = not (nat_eq (length reports) 0) && list_all applied_none reports && not (list_any asks_report commands)

-- the line that says where to look then
abbrev pub silence_text : Bool → List ℕ
silence_text true = codes "silent: no node applied a slot, and no line asks for a report; see bowls stand, bowls check\n"
silence_text false = []

-- The input is a script, and its nodes played exactly its lines. The answer is their reports, with the notices of that run.
pub record IsRunAnswer (shape : Shape) (input : List ℕ) (answer : Answer) : Type 0 where
  pub given : Given
  pub is_given : IsGiven input given
  pub script : Script
  pub network : NetworkView
  pub notices : List Notice
  pub ran : IsRan given.text.items script network notices
  pub reports : answer.text.items ≡ reports_text shape (reports_of network.nodes) script.commands.items
  pub told : string_bytes answer.notices ≡ notices_text (map (placed_notice given.expanded.lines) notices) ++ silence_text (is_silent (reports_of network.nodes) script.commands.items)

-- The input is a script whose nodes ran in threads. The answer is the reports of what the threads left, with the notices of these reports.
pub record IsThreadsAnswer (shape : Shape) (input : List ℕ) (answer : Answer) : Type 0 where
  pub given : Given
  pub is_given : IsGiven input given
  pub script : Script
  pub nodes : List NodeReport
  pub notices : List Notice
  pub ran : IsRanInThreads given.text.items script nodes notices
  pub reports : answer.text.items ≡ reports_text shape (reports_left script.commands.items nodes []) script.commands.items
  pub told : string_bytes answer.notices ≡ notices_text (map (placed_notice given.expanded.lines) notices) ++ silence_text (is_silent (reports_left script.commands.items nodes []) script.commands.items)

-- the answer to a script that is played, by its mode
abbrev pub IsRunBy : Mode → Shape → List ℕ → Answer → Type 0
IsRunBy Serial shape input answer = IsRunAnswer shape input answer
IsRunBy Threads shape input answer = IsThreadsAnswer shape input answer

-- ---- accounts

-- The input is a script, and its nodes played exactly its lines. The answer is their account, with all that happened at them in that run, and
-- the notices of that run.
pub record IsAccountAnswer (input : List ℕ) (answer : Answer) : Type 0 where
  pub given : Given
  pub is_given : IsGiven input given
  pub script : Script
  pub network : NetworkView
  pub notices : List Notice
  pub ran : IsRan given.text.items script network notices
  pub kept : List Kept
  pub is_kept : IsKept script.commands.items network kept
  pub one : is_kept.played.heard ≡ ran.shows.run.played.heard
  pub account : answer.text.items ≡ account_text ways.Serial (reports_of network.nodes) kept
  pub told : string_bytes answer.notices ≡ notices_text (map (placed_notice given.expanded.lines) notices)

-- The input is a script whose nodes ran in threads. The answer is the account of what the threads left, with all that came over each link, and
-- with the notices of their reports.
pub record IsThreadsAccount (input : List ℕ) (answer : Answer) : Type 0 where
  pub given : Given
  pub is_given : IsGiven input given
  pub script : Script
  pub nodes : List NodeReport
  pub notices : List Notice
  pub ran : IsRanInThreads given.text.items script nodes notices
  pub kept : AreAllKept true nodes
  pub account : answer.text.items ≡ account_text ways.Threads (reports_left script.commands.items nodes []) []
  pub told : string_bytes answer.notices ≡ notices_text (map (placed_notice given.expanded.lines) notices)

-- the account of a script that is played, by its mode
abbrev pub IsAccountBy : Mode → List ℕ → Answer → Type 0
IsAccountBy Serial input answer = IsAccountAnswer input answer
IsAccountBy Threads input answer = IsThreadsAccount input answer

-- The input is a script. The answer is the account of nodes that played exactly its lines, and the headline holds for each of them.
pub record IsHeadlinedAccount (input : List ℕ) (answer : Answer) : Type 0 where
  pub given : Given
  pub is_given : IsGiven input given
  pub commands : List Command
  pub lines : List ℕ
  pub said : IsSaid given.text.items commands lines
  pub network : NetworkView
  pub kept : List Kept
  pub is_kept : IsKept commands network kept
  pub each : AreNodesHeadlined commands network.nodes
  pub account : answer.text.items ≡ account_text ways.Serial (reports_of network.nodes) kept

-- The input is a script whose nodes ran in threads. The answer is the account of what the threads left, with all that came over each link, and the
-- headline holds for each node.
pub record IsHeadlinedThreadsAccount (input : List ℕ) (answer : Answer) : Type 0 where
  pub given : Given
  pub is_given : IsGiven input given
  pub commands : List Command
  pub lines : List ℕ
  pub said : IsSaid given.text.items commands lines
  pub nodes : List NodeReport
  pub each : AreReportsHeadlined commands nodes
  pub kept : AreAllKept true nodes
  pub account : answer.text.items ≡ account_text ways.Threads (reports_left commands nodes []) []

-- the same, by the mode in which the script is played
abbrev pub IsHeadlinedAccountBy : Mode → List ℕ → Answer → Type 0
IsHeadlinedAccountBy Serial input answer = IsHeadlinedAccount input answer
IsHeadlinedAccountBy Threads input answer = IsHeadlinedThreadsAccount input answer

-- ---- headlines

-- The input is a script. The answer is the reports of nodes that played exactly its lines, and the headline holds for each of them.
pub record IsHeadlinedRun (shape : Shape) (input : List ℕ) (answer : Answer) : Type 0 where
  pub given : Given
  pub is_given : IsGiven input given
  pub commands : List Command
  pub lines : List ℕ
  pub said : IsSaid given.text.items commands lines
  pub nodes : Nodes
  pub each : AreNodesHeadlined commands nodes
  pub reports : answer.text.items ≡ reports_text shape (reports_of nodes) commands

-- The input is a script whose nodes ran in threads. The answer is the reports of what the threads left, and the headline holds for each node.
pub record IsHeadlinedInThreads (shape : Shape) (input : List ℕ) (answer : Answer) : Type 0 where
  pub given : Given
  pub is_given : IsGiven input given
  pub commands : List Command
  pub lines : List ℕ
  pub said : IsSaid given.text.items commands lines
  pub nodes : List NodeReport
  pub each : AreReportsHeadlined commands nodes
  pub reports : answer.text.items ≡ reports_text shape (reports_left commands nodes []) commands

-- the same, by the mode in which the script is played
abbrev pub IsHeadlinedBy : Mode → Shape → List ℕ → Answer → Type 0
IsHeadlinedBy Serial shape input answer = IsHeadlinedRun shape input answer
IsHeadlinedBy Threads shape input answer = IsHeadlinedInThreads shape input answer

-- If the task plays a script for its reports or its account, the headline holds for the nodes of the answer.
abbrev pub IsHeadlinedFor : Task → List ℕ → Answer → Type 0
IsHeadlinedFor (Run mode shape) input answer = IsHeadlinedBy mode shape input answer
IsHeadlinedFor (Account mode) input answer = IsHeadlinedAccountBy mode input answer
IsHeadlinedFor task input answer = Unit {0}

-- ---- what is shown of scripts

-- The input is a script. The answer is the lines of its warnings and of its hints, with the line numbers of the input, and then `ok`.
pub record IsCheckAnswer (input : List ℕ) (answer : Answer) : Type 0 where
  pub given : Given
  pub is_given : IsGiven input given
  pub commands : List Command
  pub lines : List ℕ
  pub said : IsSaid given.text.items commands lines
  pub warnings : List Warning
  pub warned : AreWarnings commands (map (placed given.expanded.lines) lines) warnings
  pub hints : List Hint
  pub hinted : AreHints commands (map (placed given.expanded.lines) lines) hints
  pub just : IsJust (warnings_text warnings ++ hints_text hints ++ codes "ok\n") answer

-- The input is a script that was played to its end. The answer is what is shown of its run, at this depth, with the line numbers of the
-- expanded script.
pub record IsTraceAnswer (depth : Depth) (input : List ℕ) (answer : Answer) : Type 0 where
  pub given : Given
  pub is_given : IsGiven input given
  pub told : Traced
  pub is_told : IsTraced depth given.text.items told
  pub whole : told.fault ≡ None
  pub just : IsJust (string_bytes told.text) answer

-- The input is a script that was played to its end. The answer is the page of its run, with the line numbers of the expanded script.
pub record IsDrawAnswer (input : List ℕ) (answer : Answer) : Type 0 where
  pub given : Given
  pub is_given : IsGiven input given
  pub page : List ℕ
  pub drawn : IsDrawn given.text.items page
  pub just : IsJust page answer

-- The input is a script. The answer is what its nodes' quorum sets come to.
pub record IsQuorumsAnswer (input : List ℕ) (answer : Answer) : Type 0 where
  pub given : Given
  pub is_given : IsGiven input given
  pub commands : List Command
  pub lines : List ℕ
  pub said : IsSaid given.text.items commands lines
  pub text : List ℕ
  pub tells : TellsQuorums (members_in commands) text
  pub just : IsJust text answer

-- The input is a script of one slot, in hex digits or as text. The answer is what a slot's machine answers to the script that its digits are.
pub record IsSlotAnswer (input : List ℕ) (answer : Answer) : Type 0 where
  pub digits : List ℕ
  pub written : IsScriptOf OfSlot AsHex input digits
  pub script : SlotScript
  pub text : List ℕ
  pub played : IsPlayed script text
  pub just : IsJust text answer

-- ---- other forms

-- the form in hex digits of a script: of one slot if the first argument is true, else of nodes
abbrev pub IsHexBy : Bool → List ℕ → List ℕ → Type 0
IsHexBy true input out = IsScriptOf OfSlot AsHex input out
IsHexBy false input out = IsHexed input out

-- the form as text of a script: of one slot if the first argument is true, else of nodes
abbrev pub IsTextBy : Bool → List ℕ → List ℕ → Type 0
IsTextBy true input out = IsScriptOf OfSlot AsText input out
IsTextBy false input out = IsScriptOf OfNodes AsText input out

-- ---- all commands

-- what a command makes of an input
abbrev pub Answers : Task → List ℕ → Answer → Type 0
Answers (Run mode shape) input answer = IsRunBy mode shape input answer
Answers (Account mode) input answer = IsAccountBy mode input answer
Answers Check input answer = IsCheckAnswer input answer
Answers Stand input answer = IsTraceAnswer Stands input answer
Answers Trace input answer = IsTraceAnswer Whole input answer
Answers Draw input answer = IsDrawAnswer input answer
Answers Slot input answer = IsSlotAnswer input answer
Answers Quorums input answer = IsQuorumsAnswer input answer
Answers Hex input answer = (out : List ℕ) × IsHexBy (is_slot_script input) input out × IsJust out answer
Answers Text input answer = (out : List ℕ) × IsTextBy (is_slot_script input) input out × IsJust out answer
