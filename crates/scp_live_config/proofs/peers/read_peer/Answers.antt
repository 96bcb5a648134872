use Rattle.std.proofs.Common.{refl, sym}
use Rattle.scp_live_config.proofs.peers.read_peer.Goals as goal

pub returns-in-Some-named-clause-wrong : goal.returns-in-Some-named-clause-wrong
returns-in-Some-named-clause-wrong c =
    let said = rw c.in-Some.is at c.name_said.ensures in
    let found = rw (c.in-Some-named.is, c.name-3.ensures) at c.named.ensures in
    (refl, (c.in-Some-named.field-0.now, c.in-Some.peer.now, sym said, sym found))
