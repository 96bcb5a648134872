use Rattle.std.proofs.Common.{◌≡◌, ◌≤◌, ◌∙◌, ℕ, List, length, ap, subst, sym, string_bytes}
use Rattle.scp_script_short.specs.scp_types.specs.declared.limits.TheConstants.{NODE_LIMIT}
use Rattle.scp_notices.specs.scp_turn.specs.Heard.{Nodes}
use Rattle.scp_notices.specs.scp_report.specs.Node.{reports_of}
use Rattle.scp_account.specs.declared.node.Mode.TheVariants as ways
use Rattle.scp_account.specs.Account.{account_text}
use Rattle.scp_draw.specs.scp_facts.specs.declared.happening.Kept.{Kept}
use Rattle.scp_draw.specs.scp_facts.specs.Keeping.{WatchView}
use Rattle.scp_account.specs.Run.{keeping}
use Rattle.scp_notices.specs.scp_line.specs.declared.watch.Steps.{Steps}
use Rattle.scp_convert.specs.scp_prompt.specs.declared.asked.Mode.TheVariants.{Serial}
use Rattle.scp_convert.specs.scp_prompt.specs.declared.asked.Shape.TheVariants.{Settled}
use Rattle.scp_notices.specs.Run.{noticing, nothing_noted, IsRan, IsRunFault, IsWatched}
use Rattle.scp_notices.proofs.Runs.{few_ran}
use Rattle.scp_command.specs.inside.Runs.{IsUntold}
use Rattle.scp_command.proofs.Accounting.{account_answer, kept_of, not_run, not_told, want_fails}
use Rattle.scp_command.proofs.runs.account_serial.Goals as goal

pub returns-in-Err-clause-cause : goal.returns-in-Err-clause-cause
returns-in-Err-clause-cause c = λ input h. not_run Serial Settled input c.of_run.result (c.of_run.ensures input Settled h (subst (λ (text : List ℕ). IsRunFault text c.in-Err.fault) c.as_slice.ensures.value c.in-Err.ensures.cause))

pub account_of-requires : goal.account_of-requires
account_of-requires c =
    let ran = c.in-Ok.watched.ran in
    let shows = c.in-Ok.ensures.ran.0.shows in
    record { few = subst (λ (nodes : Nodes). length nodes ≤ NODE_LIMIT) (sym c.nodes.ensures) (few_ran noticing ran.script.commands.items ran.script.lines.items ran.network nothing_noted shows.noted c.in-Ok.ensures.names shows.run) }

pub returns-in-Ok-account_of-clause-answer : goal.returns-in-Ok-account_of-clause-answer
returns-in-Ok-account_of-clause-answer c = λ input h.
    let ran = c.in-Ok.watched.ran in
    let steps : Steps WatchView = record { watch = c.new.result } in
    let seen = c.in-Ok.watched.watch in
    let watch = seen.watch in
    let is = subst (λ (text : List ℕ). (is : IsRan text ran.script ran.network ran.notices.items) × IsWatched keeping ran.script.commands.items ran.script.lines.items ran.network ran.notices.items is.shows steps seen) c.as_slice.ensures.value c.in-Ok.ensures.ran in
    let made = kept_of c.a_run_is_kept_as_it_happened.ensures ran.script.commands.items ran.script.lines.items ran.network ran.notices.items is.0.shows steps seen (ap (λ (w : WatchView). w.kept) c.new.ensures) (sym c.lacks_memory.ensures ∙ c.if-lacks_memory.false) is.1 in
    let kept : c.as_slice-2.result.now ≡ watch.kept = c.as_slice-2.ensures.value ∙ c.into_kept-kept.ensures in
    account_answer input c.args.given.now ran.script ran.network ran.notices.items watch.kept (string_bytes c.in-Ok-account_of.text) c.answer_of.result h is.0 made
    (c.in-Ok-account_of.ensures.account ∙ ap (λ (nodes : Nodes). account_text ways.Serial (reports_of nodes) c.as_slice-2.result.now) c.nodes.ensures ∙ ap (λ (l : List Kept). account_text ways.Serial (reports_of ran.network.nodes) l) kept)
    c.answer_of.ensures.text c.answer_of.ensures.notices

pub returns-in-Ok-account_of-clause-cause : goal.returns-in-Ok-account_of-clause-cause
returns-in-Ok-account_of-clause-cause c = λ input h. want_fails Serial input c.answer_of.result c.answer_of.ensures.cause

pub returns-in-Err-account_of-clause-cause : goal.returns-in-Err-account_of-clause-cause
returns-in-Err-account_of-clause-cause c = λ input h.
    let ran = c.in-Ok.watched.ran in
    let steps : Steps WatchView = record { watch = c.new.result } in
    let seen = c.in-Ok.watched.watch in
    let watch = seen.watch in
    let is = subst (λ (text : List ℕ). (is : IsRan text ran.script ran.network ran.notices.items) × IsWatched keeping ran.script.commands.items ran.script.lines.items ran.network ran.notices.items is.shows steps seen) c.as_slice.ensures.value c.in-Ok.ensures.ran in
    let made = kept_of c.a_run_is_kept_as_it_happened.ensures ran.script.commands.items ran.script.lines.items ran.network ran.notices.items is.0.shows steps seen (ap (λ (w : WatchView). w.kept) c.new.ensures) (sym c.lacks_memory.ensures ∙ c.if-lacks_memory.false) is.1 in
    not_told input c.args.given.now ran.script.commands.items ran.script.lines.items ran.network watch.kept c.in-Err-account_of.failure h is.0.said made.0 (subst (λ (nodes : Nodes). IsUntold (reports_of nodes) c.in-Err-account_of.failure) c.nodes.ensures c.in-Err-account_of.ensures.cause)
