use Rattle.std.proofs.Common.{◌<◌, ◌++◌, flat_map, length, string_bytes, arith}
use Rattle.std.proofs.lemmas.List.{get_or_default}
use Rattle.scp_history.specs.Words.{behind_space}
use Rattle.scp_history.proofs.Writing.{written_more, written_all}
use Rattle.scp_history.proofs.nodes.write_nodes.Goals as goal

pub loop-node-preserved : goal.loop-node-preserved
loop-node-preserved c =
    let f = behind_space c.args.by_number in
    let xs = c.args.nodes.now in
    let i = c.loop-node.node-index in
    let lt : i < length xs = omega arith in
    written_more f xs i _ (string_bytes c.loop-node.text) (string_bytes c.write_behind_space.new.text) (string_bytes c.args.text.now ++ flat_map f xs) lt (get_or_default xs i _ _ lt) c.in_ok-write_behind_space.ensures c.loop-node.invariant

pub returns : goal.returns
returns c =
    let f = behind_space c.args.by_number in
    let xs = c.args.nodes.now in
    written_all f xs c.loop-node.node-index (string_bytes c.loop-node.text) (string_bytes c.args.text.now ++ flat_map f xs) (omega arith) c.loop-node.invariant
