use Rattle.scp_turn.proofs.Alone.{offered_alone}
use Rattle.scp_turn.proofs.network.Network.offer.Goals as goal

pub returns : goal.returns
returns c = offered_alone _ c.args.self.now c.args.number c.args.event c.offer_with.result c.offer_with.new.self c.offer_with.ensures.offered
