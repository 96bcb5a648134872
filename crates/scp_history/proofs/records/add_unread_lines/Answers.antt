use Rattle.std.proofs.Common.{◌+◌, ◌++◌, drop, arith}
use Rattle.scp_history.specs.Records.{unread_line, unread_lines}
use Rattle.scp_history.proofs.Adding.{add_more, add_all, unread_more, unread_none}
use Rattle.scp_history.proofs.records.add_unread_lines.Goals as goal

pub loop-at-preserved : goal.loop-at-preserved
loop-at-preserved c =
    let xs = c.args.records.now in
    let i = c.loop-at.at in
    let x = c.index-records-at.result in
    add_more c.loop-at.lines.items c.add_unread.new.lines.items (unread_line c.args.file (i + 1) x) (unread_lines c.args.file (i + 1 + 1) (drop (i + 1) xs)) (unread_lines c.args.file (i + 1) (drop i xs)) (c.args.lines.now.items ++ unread_lines c.args.file 1 xs)
    c.in_ok-add_unread.ensures (unread_more c.args.file (i + 1) xs i x (omega arith) c.index-records-at.is) c.loop-at.invariant

pub returns : goal.returns
returns c =
    let xs = c.args.records.now in
    let i = c.loop-at.at in
    add_all c.loop-at.lines.items (unread_lines c.args.file (i + 1) (drop i xs)) (c.args.lines.now.items ++ unread_lines c.args.file 1 xs) (unread_none c.args.file (i + 1) xs i (omega arith)) c.loop-at.invariant
