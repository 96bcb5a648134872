use Rattle.std.proofs.Common.{◌<◌, List, length, map, subst, arith}
use Rattle.std.proofs.lemmas.List.{get_or_default, take_all}
use Rattle.scp_history.specs.scp_types.specs.declared.names.NodeId.{NodeId}
use Rattle.scp_history.specs.scp_judged.specs.Verdicts.{heard_of}
use Rattle.scp_shown.specs.Listed.{Picks}
use Rattle.scp_shown.specs.Silent.{IsSilent}
use Rattle.scp_shown.proofs.Listing.{picks_taken}
use Rattle.scp_shown.proofs.silent.silent_among.Goals as goal

pub loop-node-preserved : goal.loop-node-preserved
loop-node-preserved c =
    let xs = c.args.nodes.now in
    let i = c.loop-node.node-index in
    let lt : i < length xs = omega arith in
    picks_taken (IsSilent (map heard_of c.args.joined.now)) xs i _ c.is_silent-is_asked.result c.loop-node.silent.items c.add_where.new.nodes.items lt (get_or_default xs i _ _ lt) c.loop-node.invariant c.is_silent-is_asked.ensures c.in_ok-add_where.ensures

pub returns : goal.returns
returns c =
    subst (λ (l : List NodeId). Picks (IsSilent (map heard_of c.args.joined.now)) l c.loop-node.silent.items) (take_all c.loop-node.node-index c.args.nodes.now (omega arith)) c.loop-node.invariant
