use Rattle.std.proofs.Common.{◌+◌, ◌++◌, drop, arith}
use Rattle.scp_history.specs.Records.{place_at, message_line, message_lines}
use Rattle.scp_history.proofs.Adding.{add_more, add_all, message_more, message_none}
use Rattle.scp_history.proofs.messages.add_lines.Goals as goal

pub loop-at-preserved : goal.loop-at-preserved
loop-at-preserved c =
    let xs = c.args.messages.now in
    let i = c.loop-at.at in
    let x = c.index-messages-at.result in
    let n = c.args.ledger in
    let f = c.args.file in
    add_more c.loop-at.lines.items c.add_message.new.lines.items (message_line n (place_at f (i + 1)) x) (message_lines n f (i + 1 + 1) (drop (i + 1) xs)) (message_lines n f (i + 1) (drop i xs)) (c.args.lines.now.items ++ message_lines n f 1 xs)
    c.in_ok-add_message.ensures (message_more n f (i + 1) xs i x (omega arith) c.index-messages-at.is) c.loop-at.invariant

pub returns : goal.returns
returns c =
    let xs = c.args.messages.now in
    let i = c.loop-at.at in
    add_all c.loop-at.lines.items (message_lines c.args.ledger c.args.file (i + 1) (drop i xs)) (c.args.lines.now.items ++ message_lines c.args.ledger c.args.file 1 xs) (message_none c.args.ledger c.args.file (i + 1) xs i (omega arith)) c.loop-at.invariant
