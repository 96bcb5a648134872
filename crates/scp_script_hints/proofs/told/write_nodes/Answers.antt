use Rattle.std.proofs.Common.{◌++◌, ap, string_bytes}
use Rattle.std.specs.Map.Iter.{deref}
use Rattle.std.proofs.lemmas.Map.Iter.{rest_more, rest_all}
use Rattle.scp_script_hints.specs.Told.{nodes_text}
use Rattle.scp_script_hints.proofs.QuorumTexts.{writing_more, writing_end}
use Rattle.scp_script_hints.proofs.told.write_nodes.Goals as goal

pub loop-node-init : goal.loop-node-init
loop-node-init c = ap (λ left. string_bytes c.args.out.now ++ nodes_text left) c.into_iter-node-iterator.ensures.into_iter_gives.0

pub loop-node-preserved : goal.loop-node-preserved
loop-node-preserved c =
    writing_more _ (string_bytes c.loop-node.out) _ c.loop-node.first c.in-Some.node.now c.loop-node.node-iterator c.next.new.self
    (rest_more deref c.loop-node.node-iterator c.next.new.self c.next.result c.in-Some.node c.in-Some.is c.next.ensures.steps)
    c.in_ok-write_next.ensures.added c.loop-node.invariant

pub returns-clause-added : goal.returns-clause-added
returns-clause-added c =
    writing_end _ (string_bytes c.loop-node.out) _ c.loop-node.first c.loop-node.node-iterator
    (rest_all deref c.loop-node.node-iterator c.next.new.self c.next.result c.in-None.is c.next.ensures.steps)
    c.in_ok-write_none.ensures c.loop-node.invariant
