-- What a run answers.
use Rattle.std.proofs.Common.{◌≡◌, ◌∙◌, ℕ, Bool, List, [], ◌++◌, ap, map, string_bytes}
use Rattle.std.specs.Prelude.{Result, Ok, Err, IfOk, IsOk}
use Rattle.scp_script_short.specs.scp_types.specs.declared.fault.Fault.{Fault}
use Rattle.scp_notices.specs.scp_gather.specs.Kv.{NodeReport}
use Rattle.scp_notices.specs.scp_turn.specs.Network.{NetworkView}
use Rattle.scp_convert.specs.scp_prompt.specs.declared.asked.Shape.{Shape}
use Rattle.scp_convert.specs.scp_prompt.specs.declared.failure.Failure.{Failure}
use Rattle.scp_notices.specs.scp_script_check.specs.declared.reading.Script.{Script}
use Rattle.scp_notices.specs.declared.notice.Notice.{Notice}
use Rattle.scp_notices.specs.Run.{IsRan}
use Rattle.scp_notices.specs.Texts.{notices_text}
use Rattle.scp_notices.specs.Threads.{IsRanInThreads}
use Rattle.scp_notices.specs.scp_report.specs.Node.{reports_of}
use Rattle.scp_notices.specs.scp_line.specs.Left.{reports_left}
use Rattle.scp_command.specs.declared.answer.Answer.{Answer}
use Rattle.scp_command.specs.declared.given.Given.{Given}
use Rattle.scp_command.specs.Given.{IsGiven}
use Rattle.scp_command.specs.Answers.{reports_text, placed_notice, is_silent, silence_text, IsRunAnswer, IsThreadsAnswer}

-- of a script that was played one step after another
pub run_answer : {S : Type 0} (bytes : S → List ℕ) (quiet : S → Bool) (shape : Shape) (input : List ℕ) (given : Given) (script : Script) (network : NetworkView) (notices : List Notice) (reports : Result S Fault) (r : Result Answer Failure)
    → IsGiven input given → IsRan given.text.items script network notices
    → IfOk r (λ answer. IfOk reports (λ text. answer.text.items ≡ bytes text)) → IfOk r (λ _. IsOk reports)
    → IfOk r (λ answer. IfOk reports (λ told. string_bytes answer.notices ≡ notices_text (map (placed_notice given.expanded.lines) notices) ++ silence_text (quiet told)))
    → IfOk reports (λ text. bytes text ≡ reports_text shape (reports_of network.nodes) script.commands.items)
    → IfOk reports (λ told. quiet told ≡ is_silent (reports_of network.nodes) script.commands.items)
    → IfOk r (IsRunAnswer shape input)
run_answer {S} bytes quiet shape input given script network notices (Ok text) (Ok answer) g ran same made told is hush = record { given = given; is_given = g; script = script; network = network; notices = notices; ran = ran; reports = same ∙ is; told = told ∙ ap (λ (b : Bool). notices_text (map (placed_notice given.expanded.lines) notices) ++ silence_text b) hush }
run_answer bytes quiet shape input given script network notices (Err fault) (Ok answer) g ran same made told is hush = absurd cc
run_answer bytes quiet shape input given script network notices reports (Err failure) g ran same made told is hush = tt

-- of one whose nodes ran in threads
pub threads_answer : {S : Type 0} (bytes : S → List ℕ) (quiet : S → Bool) (shape : Shape) (input : List ℕ) (given : Given) (script : Script) (nodes : List NodeReport) (notices : List Notice) (reports : Result S Fault) (r : Result Answer Failure)
    → IsGiven input given → IsRanInThreads given.text.items script nodes notices
    → IfOk r (λ answer. IfOk reports (λ text. answer.text.items ≡ bytes text)) → IfOk r (λ _. IsOk reports)
    → IfOk r (λ answer. IfOk reports (λ told. string_bytes answer.notices ≡ notices_text (map (placed_notice given.expanded.lines) notices) ++ silence_text (quiet told)))
    → IfOk reports (λ text. bytes text ≡ reports_text shape (reports_left script.commands.items nodes []) script.commands.items)
    → IfOk reports (λ told. quiet told ≡ is_silent (reports_left script.commands.items nodes []) script.commands.items)
    → IfOk r (IsThreadsAnswer shape input)
threads_answer {S} bytes quiet shape input given script nodes notices (Ok text) (Ok answer) g ran same made told is hush = record { given = given; is_given = g; script = script; nodes = nodes; notices = notices; ran = ran; reports = same ∙ is; told = told ∙ ap (λ (b : Bool). notices_text (map (placed_notice given.expanded.lines) notices) ++ silence_text b) hush }
threads_answer bytes quiet shape input given script nodes notices (Err fault) (Ok answer) g ran same made told is hush = absurd cc
threads_answer bytes quiet shape input given script nodes notices reports (Err failure) g ran same made told is hush = tt
