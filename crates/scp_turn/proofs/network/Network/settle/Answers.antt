use Rattle.scp_turn.proofs.Alone.{settled_alone}
use Rattle.scp_turn.proofs.network.Network.settle.Goals as goal

pub returns-clause-settled : goal.returns-clause-settled
returns-clause-settled c = settled_alone _ c.args.self.now.driven c.args.self.now.nodes c.settle_with.result c.settle_with.new.self.nodes c.settle_with.ensures.settled
