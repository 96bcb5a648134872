use Rattle.std.proofs.Common.{◌≡◌, ◌<◌, List, length, map, subst, arith}
use Rattle.std.specs.Prelude.{Some}
use Rattle.std.proofs.lemmas.List.{get_or_default, take_all}
use Rattle.scp_history.specs.scp_types.specs.declared.names.NodeId.{NodeId}
use Rattle.scp_history.specs.scp_judged.specs.Verdicts.{heard_of}
use Rattle.scp_shown.specs.Spoken.{spoken_last, AreSayers}
use Rattle.scp_shown.proofs.Listing.{picks_taken}
use Rattle.scp_shown.proofs.spoken.sayers.Goals as goal

pub loop-node-preserved : goal.loop-node-preserved
loop-node-preserved c =
    let hs = map heard_of c.args.joined.now in
    let xs = c.args.nodes.now in
    let i = c.loop-node.node-index in
    let lt : i < length xs = omega arith in
    picks_taken (λ (v : NodeId). spoken_last hs v ≡ Some (c.args.word, c.args.value.now)) xs i _ c.does_say-is_asked.result c.loop-node.found.items c.add_where.new.nodes.items lt (get_or_default xs i _ _ lt) c.loop-node.invariant c.does_say-is_asked.ensures c.in_ok-add_where.ensures

pub returns-clause-those : goal.returns-clause-those
returns-clause-those c =
    subst (λ (l : List NodeId). AreSayers (map heard_of c.args.joined.now) c.args.word c.args.value.now l c.loop-node.found.items) (take_all c.loop-node.node-index c.args.nodes.now (omega arith)) c.loop-node.invariant
