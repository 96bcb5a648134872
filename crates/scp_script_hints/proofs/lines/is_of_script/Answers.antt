use Rattle.std.proofs.Common.{◌≡◌, ◌+◌, ◌∙◌, true, false, nat_eq, sym, subst, arith}
use Rattle.std.specs.Cmp.Lexicographic.{pointwise}
use Rattle.scp_script.specs.scp_types.specs.declared.names.NodeId.{NodeId}
use Rattle.scp_script.specs.Nodes.{id_of}
use Rattle.scp_script_hints.proofs.Knowing.{known_there, known_not}
use Rattle.scp_script_hints.proofs.lines.is_of_script.Goals as goal

pub returns-then-eq : goal.returns-then-eq
returns-then-eq c =
    let node = c.args.node.now in
    let i = c.loop-index.index in
    let is : pointwise nat_eq (id_of (i + 1)).0 node.0 ≡ true = subst (λ (v : NodeId). pointwise nat_eq v.0 node.0 ≡ true) c.id_from.ensures (sym c.eq.ensures ∙ c.if-eq.true) in
    sym (known_there i c.args.count node (omega arith) is)

pub loop-index-preserved : goal.loop-index-preserved
loop-index-preserved c =
    let node = c.args.node.now in
    let i = c.loop-index.index in
    let is_not : pointwise nat_eq (id_of (i + 1)).0 node.0 ≡ false = subst (λ (v : NodeId). pointwise nat_eq v.0 node.0 ≡ false) c.id_from.ensures (sym c.eq.ensures ∙ c.if-eq.false) in
    known_not i node c.loop-index.invariant is_not
