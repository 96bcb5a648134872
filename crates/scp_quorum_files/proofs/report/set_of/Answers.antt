use Rattle.std.proofs.Common.{◌≡◌, List, take, arith, ◌∙◌, ap}
use Rattle.std.specs.List.{list_any}
use Rattle.std.specs.Prelude.{nat_eq}
use Rattle.std.specs.Cmp.Lexicographic.{pointwise}
use Rattle.std.proofs.Math.Path.{fun_ext}
use Rattle.std.proofs.lemmas.Grind.{common_steps}
use Rattle.scp_quorum_search.specs.scp_types.specs.declared.names.NodeId.{NodeId}
use Rattle.scp_quorum_search.specs.scp_quorum.specs.NodeSet.{is_in}
use Rattle.scp_quorum_files.proofs.Lines.{set_more, empty_has_none}
use Rattle.scp_quorum_files.proofs.report.set_of.Goals as goal

pub loop-node-init : goal.loop-node-init
loop-node-init c = empty_has_none c.new-set.result c.new-set.ensures.empty

pub loop-node-preserved : goal.loop-node-preserved
loop-node-preserved c =
    set_more c.args.nodes.now c.loop-node.node-index _ (is_in c.loop-node.set) (is_in c.insert.new.self) c.loop-node-test.true c.in_ok-insert.ensures.updates.0 c.loop-node.invariant

pub returns : goal.returns
returns c =
    let nodes = c.args.nodes.now in
    let whole : take c.loop-node.node-index nodes ≡ nodes = grind (arith, common_steps) in
    fun_ext (λ v. c.loop-node.invariant v ∙ ap (λ (ns : List NodeId). list_any (λ w. pointwise nat_eq w.0 v.0) ns) whole)
