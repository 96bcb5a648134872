use Rattle.std.proofs.Common.{List, subst, sym}
use Rattle.scp_turn.specs.scp_types.specs.declared.names.NodeId.{NodeId}
use Rattle.scp_turn.specs.scp_nominate.specs.Turns.{AreInTurn}
use Rattle.scp_stand_node.proofs.stand.write_stand.Goals as goal

pub write_lines-requires-clause-members : goal.write_lines-requires-clause-members
write_lines-requires-clause-members c = subst (λ (ns : List NodeId). AreInTurn c.args.seen.node.now.config.me c.args.seen.node.now.config.set ns) (sym c.as_slice.ensures.value) c.in_ok-members.ensures.members
