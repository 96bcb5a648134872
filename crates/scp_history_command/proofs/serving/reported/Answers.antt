use Rattle.std.proofs.Common.{◌≡◌, ◌∙◌, ◌++◌, ℕ, List, ap}
use Rattle.scp_ledgers.specs.scp_history.specs.Status.{status}
use Rattle.scp_ledgers.specs.scp_history.specs.declared.line.Line.{Line}
use Rattle.scp_history_command.specs.Serving.{written}
use Rattle.scp_history_command.proofs.serving.reported.Goals as goal

pub returns-clause-told : goal.returns-clause-told
returns-clause-told c =
    let lines = c.in_ok-lines.lines.items in
    let these : c.as_slice-lines.result.now ≡ lines = c.as_slice-lines.ensures.value in
    record {
      lines = lines;
      report = c.in_ok-lines.ensures.report;
      is_text = c.in_ok-write_lines.ensures ∙ ap (λ (b : List ℕ). b ++ written c.args.order c.as_slice-lines.result.now) c.new-text.ensures.bytes ∙ ap (λ (l : List Line). written c.args.order l) these;
      is_status = c.status_of-status.ensures ∙ ap (λ (l : List Line). status l) these;
    }
