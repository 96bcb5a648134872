use Rattle.std.proofs.Common.{◌<◌, ◌++◌, flat_map, length, map, arith}
use Rattle.std.proofs.lemmas.List.{get_or_default}
use Rattle.scp_history.specs.scp_judged.specs.Verdicts.{heard_of}
use Rattle.scp_shown.specs.Sides.{against_line}
use Rattle.scp_shown.proofs.Listing.{flat_more, flat_all}
use Rattle.scp_shown.proofs.sides.add_all_against.Goals as goal

pub loop-node-preserved : goal.loop-node-preserved
loop-node-preserved c =
    let f = against_line c.args.ledger (map heard_of c.args.joined.now) c.args.certified.now in
    let xs = c.args.nodes.now in
    let i = c.loop-node.node-index in
    let lt : i < length xs = omega arith in
    flat_more f xs i _ c.loop-node.lines.items c.add_against.new.lines.items (c.args.lines.now.items ++ flat_map f xs) lt (get_or_default xs i _ _ lt) c.in_ok-add_against.ensures.added c.loop-node.invariant

pub returns-clause-added : goal.returns-clause-added
returns-clause-added c =
    let f = against_line c.args.ledger (map heard_of c.args.joined.now) c.args.certified.now in
    let xs = c.args.nodes.now in
    flat_all f xs c.loop-node.node-index c.loop-node.lines.items (c.args.lines.now.items ++ flat_map f xs) (omega arith) c.loop-node.invariant
