use Rattle.std.proofs.Common.{string_bytes}
use Rattle.std.specs.Ordering.{is_eq}
use Rattle.scp_core.specs.scp_types.specs.Order.{conn_cmp}
use Rattle.scp_report.specs.Settled.{parked_line}
use Rattle.scp_report.specs.inside.Sections.{lines_at}
use Rattle.scp_report.proofs.Sections.{sorted_in}
use Rattle.scp_report.proofs.settled.sort_parked.Goals as goal

pub returns : goal.returns
returns c =
    let at = c.args.waiting.now.conn in
    (λ conn.
    sorted_in (is_eq (conn_cmp at conn)) (lines_at c.put_lines.new.sections conn) (lines_at c.args.sections.now conn)
    (lines_at c.take_lines-lines.new.sections conn) (string_bytes c.write_parked.new.lines) (string_bytes c.take_lines-lines.result) (parked_line c.args.waiting.now.count)
    (lines_at c.args.sections.now at)
    (c.in_ok-put_lines.ensures conn) (c.take_lines-lines.ensures.others conn) c.in_ok-write_parked.ensures c.take_lines-lines.ensures.lines)
