use Rattle.std.proofs.Common.{List, subst}
use Rattle.scp_vote.specs.scp_types.specs.declared.names.NodeId.{NodeId}
use Rattle.scp_nominate.specs.inside.Turns.{IsNodeGap}
use Rattle.scp_nominate.proofs.Turning.{inserted}
use Rattle.scp_nominate.proofs.Inserting.{inserted_ascends}
use Rattle.scp_nominate.proofs.nodes.add_node.Goals as goal

pub returns-in_ok-insert-in-Err-clause-added : goal.returns-in_ok-insert-in-Err-clause-added
returns-in_ok-insert-in-Err-clause-added c = inserted c.args.nodes.now.items _ c.in-Err.at c.args.node c.in_ok-insert-in-Err.ensures.items

pub returns-in_ok-insert-in-Err-clause-ascending : goal.returns-in_ok-insert-in-Err-clause-ascending
returns-in_ok-insert-in-Err-clause-ascending c = inserted_ascends c.args.nodes.now.items _ c.in-Err.at c.args.node c.requires.ascending (subst (λ (ns : List NodeId). IsNodeGap ns c.args.node c.in-Err.at) c.as_slice.ensures.value c.in-Err.ensures.gap) c.in_ok-insert-in-Err.ensures.items
