-- When a set of nodes satisfies or blocks a quorum set (the SCP draft). A set of nodes is a test of nodes.
-- No public clause reaches this definition: nothing here need be believed.
use Rattle.std.specs.Prelude.{Bool, not}
use Rattle.scp_xdr.specs.scp_types.specs.declared.names.NodeId.{NodeId}

-- the nodes outside of these
abbrev pub outside : (NodeId → Bool) → NodeId → Bool
outside nodes v = not (nodes v)
