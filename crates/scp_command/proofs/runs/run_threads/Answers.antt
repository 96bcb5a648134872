use Rattle.std.proofs.Common.{◌≡◌, ◌∙◌, ℕ, List, [], length, ap, sym, subst, arith, string_bytes}
use Rattle.std.specs.Prelude.{All, IfOk}
use Rattle.scp_notices.specs.scp_gather.specs.Kv.{NodeReport}
use Rattle.scp_script_hints.specs.scp_script.specs.declared.command.Command.{Command}
use Rattle.scp_script_hints.specs.scp_script.specs.Nodes.{NamesNodes}
use Rattle.scp_script_hints.specs.scp_script.specs.Script.{AreAdmitted, node_count}
use Rattle.scp_notices.specs.Threads.{IsRanInThreads, IsThreadsFault}
use Rattle.scp_notices.specs.scp_line.specs.Left.{reports_left}
use Rattle.scp_command.specs.declared.runs.Reported.{Reported}
use Rattle.scp_command.specs.Answers.{reports_text, is_silent}
use Rattle.scp_command.proofs.Reporting.{threads_answer}
use Rattle.scp_command.proofs.runs.run_threads.Goals as goal

pub returns-in-Err-clause-cause : goal.returns-in-Err-clause-cause
returns-in-Err-clause-cause g c = λ input h. c.of_threads.ensures input c.args.shape h (subst (λ (text : List ℕ). IsThreadsFault text c.in-Err.fault) c.as_slice.ensures.value c.in-Err.ensures.cause)

pub count_of_nodes-count-requires : goal.count_of_nodes-count-requires
count_of_nodes-count-requires g c = record { names = subst (λ (l : List Command). All NamesNodes l) (sym c.as_slice-commands.ensures.value) c.in-Ok.ensures.names }

pub reports_gathered-told-requires-clause-names : goal.reports_gathered-told-requires-clause-names
reports_gathered-told-requires-clause-names g c = subst (λ (l : List Command). All NamesNodes l) (sym c.as_slice-commands.ensures.value) c.in-Ok.ensures.names

pub reports_gathered-told-requires-clause-admitted : goal.reports_gathered-told-requires-clause-admitted
reports_gathered-told-requires-clause-admitted g c = subst (λ (l : List Command). AreAdmitted [] l) (sym c.as_slice-commands.ensures.value) c.in-Ok.ensures.admitted

pub reports_gathered-told-requires-clause-total : goal.reports_gathered-told-requires-clause-total
reports_gathered-told-requires-clause-total g c = ap (λ (l : List NodeReport). length l) c.as_slice-2.ensures.value ∙ c.in-Ok.ensures.ran.shows.reported.count ∙ ap (λ (l : List Command). node_count l) (sym c.as_slice-commands.ensures.value)

pub reports_gathered-told-requires-clause-few : goal.reports_gathered-told-requires-clause-few
reports_gathered-told-requires-clause-few g c = omega (arith, ap (λ (l : List NodeReport). length l) c.as_slice-2.ensures.value, c.in-Ok.ensures.ran.shows.reported.count, ap (λ (l : List Command). node_count l) c.as_slice-commands.ensures.value, c.count_of_nodes-count.ensures.count, c.count_of_nodes-count.ensures.few)

pub returns-clause-answer : goal.returns-clause-answer
returns-clause-answer g c = λ input h.
    let ran = c.in-Ok.ran in
    threads_answer (λ (told : Reported). string_bytes told.text) (λ (told : Reported). told.silent) c.args.shape input c.args.given.now ran.script ran.reports.items ran.notices.items c.reports_gathered-told.result c.answer_of_run.result h
    (subst (λ (text : List ℕ). IsRanInThreads text ran.script ran.reports.items ran.notices.items) c.as_slice.ensures.value c.in-Ok.ensures.ran)
    c.answer_of_run.ensures.text c.answer_of_run.ensures.made c.answer_of_run.ensures.notices
    (subst (λ (nodes : List NodeReport). IfOk c.reports_gathered-told.result (λ (told : Reported). string_bytes told.text ≡ reports_text c.args.shape (reports_left ran.script.commands.items nodes []) ran.script.commands.items)) c.as_slice-2.ensures.value
    (subst (λ (l : List Command). IfOk c.reports_gathered-told.result (λ (told : Reported). string_bytes told.text ≡ reports_text c.args.shape (reports_left l c.as_slice-2.result.now []) l)) c.as_slice-commands.ensures.value c.reports_gathered-told.ensures.text))
    (subst (λ (nodes : List NodeReport). IfOk c.reports_gathered-told.result (λ (told : Reported). told.silent ≡ is_silent (reports_left ran.script.commands.items nodes []) ran.script.commands.items)) c.as_slice-2.ensures.value
    (subst (λ (l : List Command). IfOk c.reports_gathered-told.result (λ (told : Reported). told.silent ≡ is_silent (reports_left l c.as_slice-2.result.now []) l)) c.as_slice-commands.ensures.value c.reports_gathered-told.ensures.silent))
