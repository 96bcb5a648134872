-- A delivered message as contracts see it.
use Rattle.std.specs.Prelude.{Option}
use Rattle.scp_wire.specs.scp_types.specs.declared.names.ConnId.{ConnId}
use Rattle.scp_wire.specs.scp_types.specs.declared.names.Seq.{Seq}
use Rattle.scp_wire.specs.scp_quorum.specs.QuorumTree.{QuorumTree}
use Rattle.scp_wire.specs.declared.message.Message.{Message}

-- what contracts see of a delivered message: its connection, number and content, and the set that comes with it
pub record DeliveryView : Type 0 where
  pub conn : ConnId
  pub seq : Seq
  pub message : Message
  pub set : Option QuorumTree
