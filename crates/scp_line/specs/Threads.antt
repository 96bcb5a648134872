-- What is reported of nodes whose stages ran in threads.
use Rattle.std.specs.Prelude.{ℕ, ◌≡◌, List, []}
use Rattle.scp_turn.specs.scp_types.specs.declared.fault.Fault.{Fault}
use Rattle.scp_turn.specs.scp_types.specs.declared.fault.Fault.TheVariants.{NoMemory, TooLong, Device, Full, NotOpen, BadScript, Refused}
use Rattle.scp_threaded_script.specs.scp_gather.specs.Kv.{NodeReport}
use Rattle.scp_threaded_script.specs.Reported.{AreNodesReported, IsGivenUp}
use Rattle.scp_report.specs.scp_script.specs.Script.{IsScript, commands_in}
use Rattle.scp_line.specs.Left.{reports_left}
use Rattle.scp_report.specs.Reports.{settled_text}

-- ---- reports

-- The text is the reports that the script asks for: one for each `report` line, in the order of the lines. The stages of the nodes ran in
-- threads.
-- Each node holds its ledger, of what was sent to it. Its commands are those of the script. Each link that the script drives carried what the
-- script says. Each other link carried what the sender's outbox gave of what the sender's stages handed out.
pub record AreGatheredReports (script text : List ℕ) : Type 0 where
  pub nodes : List NodeReport
  pub reported : AreNodesReported (commands_in script) nodes
  pub reports : text ≡ settled_text (reports_left (commands_in script) nodes []) (commands_in script)

-- ---- refusals

-- Why a script isn't played in threads. It can't be read: out of memory, too long, a failed reader, or a bad line. Its nodes fail: a stage
-- failed, a mark found no room, or a link wasn't left as the lines say. Or the writer of the reports failed.
abbrev pub IsThreadsFault : Fault → Type 0
IsThreadsFault NoMemory = Unit {0}
IsThreadsFault TooLong = Unit {0}
IsThreadsFault Device = Unit {0}
IsThreadsFault (BadScript line) = Unit {0}
IsThreadsFault (Refused stage) = Unit {0}
IsThreadsFault Full = Unit {0}
IsThreadsFault NotOpen = Unit {0}
IsThreadsFault fault = ⊥

-- The fault comes from the nodes: a stage failed, a mark found no room, or a link wasn't left as the lines say.
abbrev pub IsOfTheNodes : Fault → Type 0
IsOfTheNodes (Refused stage) = Unit {0}
IsOfTheNodes Full = Unit {0}
IsOfTheNodes NotOpen = Unit {0}
IsOfTheNodes fault = ⊥

-- the text is a script, and its nodes ended with this fault, which names this node
abbrev pub AreGivenUp : List ℕ → ℕ → Fault → Type 0
AreGivenUp script node fault = IsScript script × IsGivenUp (commands_in script) (record { fault = fault; node = node })
