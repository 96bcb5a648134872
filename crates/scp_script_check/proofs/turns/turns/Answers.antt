use Rattle.std.proofs.Common.{◌≡◌, ◌+◌, ◌++◌, ◌∷◌, [], List, length, ap, sym, subst, arith, length-append}
use Rattle.scp_nominate.specs.scp_types.specs.declared.names.NodeId.{NodeId}
use Rattle.scp_nominate.specs.scp_quorum.specs.QuorumTree.{QuorumTree}
use Rattle.scp_script.specs.Nodes.{id_of, set_at}
use Rattle.scp_nominate.specs.Turns.{AreInTurn}
use Rattle.scp_script_check.specs.Warnings.{turn_of}
use Rattle.scp_script_check.proofs.Turning.{turn_more}
use Rattle.scp_script_check.proofs.turns.turns.Goals as goal

pub loop-index-preserved : goal.loop-index-preserved
loop-index-preserved c =
    let cs = c.args.commands.now in
    let i = c.loop-index.index in
    let old = c.loop-index.turns.items in
    let turn : List NodeId = c.in_ok-of.field-0 in
    let here : AreInTurn (id_of (i + 1)) (set_at (i + 1) cs) turn =
    subst (λ (x : NodeId). AreInTurn x (set_at (i + 1) cs) turn) c.id_from.ensures (subst (λ (s : QuorumTree). AreInTurn c.id_from.result s turn) c.in_ok-set.ensures.set c.in_ok-of.ensures.turn)
    in
    let is : c.push.new.self.items ≡ old ++ turn ∷ [] = c.in_ok-push.ensures.items in
    record {
      each = omega (arith, c.loop-index.invariant.each, ap length is, length-append old (turn ∷ []));
      turn = λ node one most. subst (λ (ts : List (List NodeId)). AreInTurn (id_of node) (set_at node cs) (turn_of ts node)) (sym is) (turn_more cs old turn i c.loop-index.invariant.each c.loop-index.invariant.turn here node one most);
    }
