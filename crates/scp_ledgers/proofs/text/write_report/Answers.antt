use Rattle.std.proofs.Common.{◌++◌, flat_map, string_bytes, arith}
use Rattle.scp_shown.specs.scp_history.specs.Lines.{line_text}
use Rattle.scp_shown.proofs.Listing.{flat_more, flat_all}
use Rattle.scp_ledgers.proofs.text.write_report.Goals as goal

pub loop-line-preserved : goal.loop-line-preserved
loop-line-preserved c =
    let f = line_text c.args.by_number in
    let xs = c.args.lines.now in
    flat_more f xs c.loop-line.line-index c.line-item.result (string_bytes c.loop-line.text) (string_bytes c.write_line.new.text) (string_bytes c.args.text.now ++ flat_map f xs) (omega arith) c.line-item.is c.in_ok-write_line.ensures c.loop-line.invariant

pub returns : goal.returns
returns c =
    let f = line_text c.args.by_number in
    let xs = c.args.lines.now in
    flat_all f xs c.loop-line.line-index (string_bytes c.loop-line.text) (string_bytes c.args.text.now ++ flat_map f xs) (omega arith) c.loop-line.invariant
