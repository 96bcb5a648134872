use Rattle.std.proofs.Common.{Contains}
use Rattle.scp_nominate.proofs.Turning.{led}
use Rattle.scp_nominate.proofs.nodes.add_leader.Goals as goal

pub returns-clause-added : goal.returns-clause-added
returns-clause-added g c = led c.args.nodes.now c.leader-place.result _ _ (λ v. Contains c.add_node.new.nodes.items v) (λ v. Contains c.args.leaders.now.items v) c.leader-place.ensures.below c.leader-place.ensures.place c.in_ok-add_node.ensures.added
