use Rattle.std.proofs.Common.{◌++◌, flat_map, string_bytes, arith}
use Rattle.scp_history.specs.Lines.{behind_bar}
use Rattle.scp_history.proofs.Writing.{written_more, written_all}
use Rattle.scp_history.proofs.text.write_more_sides.Goals as goal

pub loop-side-preserved : goal.loop-side-preserved
loop-side-preserved c =
    let f = behind_bar c.args.by_number in
    let xs = c.args.sides.now in
    written_more f xs c.loop-side.side-index c.side-item.result (string_bytes c.loop-side.text) (string_bytes c.write_behind_bar.new.text) (string_bytes c.args.text.now ++ flat_map f xs) (omega arith) c.side-item.is c.in_ok-write_behind_bar.ensures c.loop-side.invariant

pub returns : goal.returns
returns c =
    let f = behind_bar c.args.by_number in
    let xs = c.args.sides.now in
    written_all f xs c.loop-side.side-index (string_bytes c.loop-side.text) (string_bytes c.args.text.now ++ flat_map f xs) (omega arith) c.loop-side.invariant
