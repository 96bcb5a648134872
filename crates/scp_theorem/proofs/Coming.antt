-- What comes over a link is of the peer that the link comes from.
use Rattle.std.proofs.Common.{◌≡◌, ap}
use Rattle.scp_outbox.specs.scp_types.specs.declared.names.ConnId.{ConnId}
use Rattle.scp_outbox.specs.scp_types.specs.declared.names.NodeId.{NodeId}
use Rattle.scp_outbox.specs.scp_wire.specs.declared.link.Inbound.{Inbound}
use Rattle.scp_outbox.specs.scp_wire.specs.declared.link.Inbound.TheVariants as inbound
use Rattle.scp_outbox.specs.scp_wire.specs.Connections.{same_node}
use Rattle.scp_outbox.specs.scp_wire.specs.Shape.{Come, MayCome, is_from}

pub from_one : (peer me q : NodeId) (h : Come) (x : Inbound) → MayCome peer me h x → is_from q x ≡ same_node peer q
from_one peer me q h (inbound.Opened conn) m = ap (λ (c : ConnId). same_node c.from q) m.1
from_one peer me q h (inbound.Carried x) m = ap (λ (c : ConnId). same_node c.from q) m.1
from_one peer me q h (inbound.Side conn message) m = ap (λ (c : ConnId). same_node c.from q) m.1
from_one peer me q h (inbound.Closed conn cause) m = ap (λ (c : ConnId). same_node c.from q) m.1
from_one peer me q h (inbound.Local command) m = absurd m
