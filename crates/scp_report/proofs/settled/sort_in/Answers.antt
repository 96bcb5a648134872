use Rattle.std.proofs.Common.{string_bytes}
use Rattle.std.specs.Ordering.{is_eq}
use Rattle.scp_core.specs.scp_types.specs.Order.{conn_cmp}
use Rattle.scp_report.specs.Settled.{fate_line}
use Rattle.scp_report.specs.inside.Sections.{lines_at}
use Rattle.scp_report.proofs.Sections.{sorted_in}
use Rattle.scp_report.proofs.settled.sort_in.Goals as goal

pub returns : goal.returns
returns c =
    let at = c.conn_of_fate-conn.result in
    rw (← c.conn_of_fate-conn.ensures) (λ conn.
    sorted_in (is_eq (conn_cmp at conn)) (lines_at c.put_lines.new.sections conn) (lines_at c.args.sections.now conn)
    (lines_at c.take_lines-lines.new.sections conn) (string_bytes c.write_fate.new.text) (string_bytes c.take_lines-lines.result) (fate_line c.args.fate.now)
    (lines_at c.args.sections.now at)
    (c.in_ok-put_lines.ensures conn) (c.take_lines-lines.ensures.others conn) c.in_ok-write_fate.ensures c.take_lines-lines.ensures.lines)
