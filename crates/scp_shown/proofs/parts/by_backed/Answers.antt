use Rattle.std.proofs.Common.{◌<◌, List, length, map, subst, arith}
use Rattle.std.proofs.lemmas.List.{get_or_default, take_all}
use Rattle.scp_history.specs.scp_types.specs.declared.names.NodeId.{NodeId}
use Rattle.scp_history.specs.scp_judged.specs.Verdicts.{heard_of, heard_by}
use Rattle.scp_history.specs.scp_judged.specs.Backed.{IsBacked}
use Rattle.scp_shown.specs.Listed.{Picks}
use Rattle.scp_shown.specs.ValueLines.{IsNotBacked}
use Rattle.scp_shown.proofs.Listing.{picks_taken, lacks_taken}
use Rattle.scp_shown.proofs.parts.by_backed.Goals as goal

pub loop-node-preserved : goal.loop-node-preserved
loop-node-preserved c =
    let xs = c.args.nodes.now in
    let i = c.loop-node.node-index in
    let lt : i < length xs = omega arith in
    let old = c.loop-node.parts in
    let new = c.place.new.parts in (
      picks_taken (IsBacked (heard_by (map heard_of c.args.joined.now)) c.args.value.now) xs i _ c.in_ok-holds.holds old.holds.items new.holds.items lt (get_or_default xs i _ _ lt) c.loop-node.invariant.0 c.in_ok-holds.ensures.exact c.in_ok-place.ensures.0,
      lacks_taken (IsBacked (heard_by (map heard_of c.args.joined.now)) c.args.value.now) xs i _ c.in_ok-holds.holds old.fails.items new.fails.items lt (get_or_default xs i _ _ lt) c.loop-node.invariant.1 c.in_ok-holds.ensures.exact c.in_ok-place.ensures.1,
    )

pub returns-clause-holds : goal.returns-clause-holds
returns-clause-holds c = subst (λ (l : List NodeId). Picks (IsBacked (heard_by (map heard_of c.args.joined.now)) c.args.value.now) l c.loop-node.parts.holds.items) (take_all c.loop-node.node-index c.args.nodes.now (omega arith)) c.loop-node.invariant.0

pub returns-clause-fails : goal.returns-clause-fails
returns-clause-fails c = subst (λ (l : List NodeId). Picks (IsNotBacked (heard_by (map heard_of c.args.joined.now)) c.args.value.now) l c.loop-node.parts.fails.items) (take_all c.loop-node.node-index c.args.nodes.now (omega arith)) c.loop-node.invariant.1
