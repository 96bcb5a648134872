use Rattle.std.proofs.Common.{◌+◌, length}
use Rattle.scp_history.specs.Records.{unread_lines, cut_line}
use Rattle.scp_history.proofs.Adding.{add_both}
use Rattle.scp_history.proofs.records.add_lines_of.Goals as goal

pub returns : goal.returns
returns c =
    let xs = c.args.records.now in
    add_both c.add_cut.result c.args.lines.now.items c.add_unread_lines.new.lines.items c.add_cut.new.lines.items (unread_lines c.args.file 1 xs) (cut_line c.args.file (length xs + 1) c.args.is_cut) c.in_ok-add_unread_lines.ensures c.add_cut.ensures
