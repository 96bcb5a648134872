use Rattle.std.proofs.Common.{◌≡◌, ◌∙◌, List, length, string_bytes, ap, sym, subst}
use Rattle.std.proofs.lemmas.Result.{err_from_is_err_and}
use Rattle.scp_threaded_script.specs.scp_gather.specs.Kv.{NodeReport}
use Rattle.scp_threaded_script.specs.Reported.{AreNodesReported}
use Rattle.scp_report.specs.scp_script.specs.Script.{commands_in}
use Rattle.scp_line.proofs.Headlines.{are_gathered_headlined}
use Rattle.scp_line.proofs.Fits.{script_fits}
use Rattle.scp_line.proofs.Threaded.{are_gathered_reports, given_up_not_bad}
use Rattle.scp_line.proofs.threads.played.Goals as goal

pub run_lines-requires-clause-room : goal.run_lines-requires-clause-room
run_lines-requires-clause-room g c = λ lives outlive. script_fits c.args.text.now c.as_slice-commands.result.now (c.as_slice-commands.ensures.value ∙ c.in_ok-script.ensures.commands)

pub left_reports-requires-clause-count : goal.left_reports-requires-clause-count
left_reports-requires-clause-count g c = ap (λ (l : List NodeReport). length l) c.as_slice-reports.ensures.value ∙ c.in_ok-ran.ensures.reported.count

pub returns-in-Ok-clause-reports : goal.returns-in-Ok-clause-reports
returns-in-Ok-clause-reports g c =
    let commands = c.as_slice-commands.result.now in
    let reports = c.as_slice-reports.result.now in
    let same : commands ≡ commands_in c.args.text.now = c.as_slice-commands.ensures.value ∙ c.in_ok-script.ensures.commands in
    let reported : AreNodesReported commands reports = subst (λ (l : List NodeReport). AreNodesReported commands l) (sym c.as_slice-reports.ensures.value) c.in_ok-ran.ensures.reported in
    are_gathered_reports c.args.text.now (string_bytes c.in-Ok.printed) commands reports same reported c.in-Ok.ensures.text

pub returns-in-Ok-clause-headline : goal.returns-in-Ok-clause-headline
returns-in-Ok-clause-headline g c =
    let commands = c.as_slice-commands.result.now in
    let reports = c.as_slice-reports.result.now in
    let same : commands ≡ commands_in c.args.text.now = c.as_slice-commands.ensures.value ∙ c.in_ok-script.ensures.commands in
    let reported : AreNodesReported commands reports = subst (λ (l : List NodeReport). AreNodesReported commands l) (sym c.as_slice-reports.ensures.value) c.in_ok-ran.ensures.reported in
    are_gathered_headlined c.what_is_played_keeps_the_headlines.ensures.reported c.args.text.now (string_bytes c.in-Ok.printed) commands reports same reported c.in-Ok.ensures.text

pub returns-in_err-ran-clause-line : goal.returns-in_err-ran-clause-line
returns-in_err-ran-clause-line g c =
    let p = err_from_is_err_and c.from_residual-in_err-ran.result c.from_residual-in_err-ran.ensures.1 in
    rw (p.1, p.2) (λ line is. absurd (given_up_not_bad c.as_slice-commands.result.now c.in_err-ran.field-0.0 c.in_err-ran.ensures.given_up line is))
