use Rattle.std.proofs.Common.{◌≡◌, ◌≤◌, ℕ, List, length, sym, subst, string_bytes}
use Rattle.std.specs.Prelude.{All, IfOk}
use Rattle.scp_script_short.specs.scp_types.specs.declared.limits.TheConstants.{NODE_LIMIT}
use Rattle.scp_notices.specs.scp_turn.specs.Heard.{Nodes}
use Rattle.scp_script_hints.specs.scp_script.specs.declared.command.Command.{Command}
use Rattle.scp_script_hints.specs.scp_script.specs.Nodes.{NamesNodes}
use Rattle.scp_notices.specs.Run.{noticing, nothing_noted, IsRan, IsRunFault}
use Rattle.scp_notices.proofs.Runs.{few_ran}
use Rattle.scp_notices.specs.scp_report.specs.Node.{reports_of}
use Rattle.scp_command.specs.declared.runs.Reported.{Reported}
use Rattle.scp_command.specs.Answers.{reports_text, is_silent}
use Rattle.scp_command.proofs.Reporting.{run_answer}
use Rattle.scp_command.proofs.runs.run_serial.Goals as goal

pub returns-in-Err-clause-cause : goal.returns-in-Err-clause-cause
returns-in-Err-clause-cause c = λ input g. c.of_run.ensures input c.args.shape g (subst (λ (text : List ℕ). IsRunFault text c.in-Err.fault) c.as_slice.ensures.value c.in-Err.ensures.cause)

pub reports_of-reports-requires-clause-few : goal.reports_of-reports-requires-clause-few
reports_of-reports-requires-clause-few c =
    let ran = c.in-Ok.ran in
    let shows = c.in-Ok.ensures.ran.shows in
    subst (λ (nodes : Nodes). length nodes ≤ NODE_LIMIT) (sym c.nodes.ensures) (few_ran noticing ran.script.commands.items ran.script.lines.items ran.network nothing_noted shows.noted c.in-Ok.ensures.names shows.run)

pub reports_of-reports-requires-clause-names : goal.reports_of-reports-requires-clause-names
reports_of-reports-requires-clause-names c = subst (λ (l : List Command). All NamesNodes l) (sym c.as_slice-2.ensures.value) c.in-Ok.ensures.names

pub returns-clause-answer : goal.returns-clause-answer
returns-clause-answer c = λ input g.
    let ran = c.in-Ok.ran in
    run_answer (λ (told : Reported). string_bytes told.text) (λ (told : Reported). told.silent) c.args.shape input c.args.given.now ran.script ran.network ran.notices.items c.reports_of-reports.result c.answer_of_run.result g
    (subst (λ (text : List ℕ). IsRan text ran.script ran.network ran.notices.items) c.as_slice.ensures.value c.in-Ok.ensures.ran)
    c.answer_of_run.ensures.text c.answer_of_run.ensures.made c.answer_of_run.ensures.notices
    (subst (λ (nodes : Nodes). IfOk c.reports_of-reports.result (λ (told : Reported). string_bytes told.text ≡ reports_text c.args.shape (reports_of nodes) ran.script.commands.items)) c.nodes.ensures
    (subst (λ (l : List Command). IfOk c.reports_of-reports.result (λ (told : Reported). string_bytes told.text ≡ reports_text c.args.shape (reports_of c.nodes.result.now) l)) c.as_slice-2.ensures.value c.reports_of-reports.ensures.text))
    (subst (λ (nodes : Nodes). IfOk c.reports_of-reports.result (λ (told : Reported). told.silent ≡ is_silent (reports_of nodes) ran.script.commands.items)) c.nodes.ensures
    (subst (λ (l : List Command). IfOk c.reports_of-reports.result (λ (told : Reported). told.silent ≡ is_silent (reports_of c.nodes.result.now) l)) c.as_slice-2.ensures.value c.reports_of-reports.ensures.silent))
