use Rattle.std.proofs.Common.{◌≡◌, ◌∙◌, ℕ, List, [], length, ap, sym, subst, string_bytes}
use Rattle.scp_notices.specs.scp_gather.specs.Kv.{NodeReport}
use Rattle.scp_script_hints.specs.scp_script.specs.declared.command.Command.{Command}
use Rattle.scp_script_hints.specs.scp_script.specs.Script.{node_count}
use Rattle.scp_notices.specs.scp_line.specs.Left.{reports_left}
use Rattle.scp_account.specs.declared.node.Mode.TheVariants as ways
use Rattle.scp_account.specs.Account.{account_text}
use Rattle.scp_convert.specs.scp_prompt.specs.declared.asked.Mode.TheVariants.{Threads}
use Rattle.scp_convert.specs.scp_prompt.specs.declared.asked.Shape.TheVariants.{Settled}
use Rattle.scp_notices.specs.Threads.{IsRanInThreads, IsThreadsFault}
use Rattle.scp_notices.specs.scp_script_check.specs.Lines.{IsSaid}
use Rattle.scp_command.specs.inside.Runs.{IsUntold}
use Rattle.scp_command.proofs.Accounting.{threads_account, not_run, threads_not_told, want_fails}
use Rattle.scp_command.proofs.runs.account_threads.Goals as goal

pub returns-in-Err-clause-cause : goal.returns-in-Err-clause-cause
returns-in-Err-clause-cause g c = λ input h. not_run Threads Settled input c.of_threads.result (c.of_threads.ensures input Settled h (subst (λ (text : List ℕ). IsThreadsFault text c.in-Err.fault) c.as_slice.ensures.value c.in-Err.ensures.cause))

pub gathered_account-requires-clause-total : goal.gathered_account-requires-clause-total
gathered_account-requires-clause-total g c = ap (λ (l : List NodeReport). length l) c.as_slice-2.ensures.value ∙ c.in-Ok.ensures.ran.shows.reported.count ∙ ap (λ (l : List Command). node_count l) (sym c.as_slice-commands.ensures.value)

pub returns-in-Ok-gathered_account-clause-answer : goal.returns-in-Ok-gathered_account-clause-answer
returns-in-Ok-gathered_account-clause-answer g c = λ input h.
    let ran = c.in-Ok.ran in
    let text = string_bytes c.in-Ok-gathered_account.text in
    threads_account input c.args.given.now ran.script ran.reports.items ran.notices.items text c.answer_of.result h
    (subst (λ (t : List ℕ). IsRanInThreads t ran.script ran.reports.items ran.notices.items) c.as_slice.ensures.value c.in-Ok.ensures.ran)
    c.in-Ok.ensures.kept
    (subst (λ (nodes : List NodeReport). text ≡ account_text ways.Threads (reports_left ran.script.commands.items nodes []) []) c.as_slice-2.ensures.value
    (subst (λ (l : List Command). text ≡ account_text ways.Threads (reports_left l c.as_slice-2.result.now []) []) c.as_slice-commands.ensures.value c.in-Ok-gathered_account.ensures.account))
    c.answer_of.ensures.text c.answer_of.ensures.notices

pub returns-in-Ok-gathered_account-clause-cause : goal.returns-in-Ok-gathered_account-clause-cause
returns-in-Ok-gathered_account-clause-cause g c = λ input h. want_fails Threads input c.answer_of.result c.answer_of.ensures.cause

pub returns-clause-cause : goal.returns-clause-cause
returns-clause-cause g c = λ input h.
    let ran = c.in-Ok.ran in
    let script = ran.script in
    let failure = c.in-Err-gathered_account.failure in
    threads_not_told input c.args.given.now script.commands.items script.lines.items ran.reports.items failure h
    (subst (λ (text : List ℕ). IsSaid text script.commands.items script.lines.items) c.as_slice.ensures.value c.in-Ok.ensures.ran.said)
    c.in-Ok.ensures.ran.shows.reported
    (subst (λ (nodes : List NodeReport). IsUntold (reports_left script.commands.items nodes []) failure) c.as_slice-2.ensures.value
    (subst (λ (l : List Command). IsUntold (reports_left l c.as_slice-2.result.now []) failure) c.as_slice-commands.ensures.value c.in-Err-gathered_account.ensures.cause))
