-- What a link's sending end sends next.
use Rattle.std.specs.Prelude.{◌≡◌, ◌≤◌}
use Rattle.scp_quorum.specs.scp_types.specs.declared.limits.TheConstants.{LIFE_LIMIT}
use Rattle.scp_quorum.specs.scp_types.specs.declared.names.NodeId.{NodeId}
use Rattle.scp_wire.specs.declared.tail.Next.{Next}
use Rattle.scp_wire.specs.Shape.{Tail, goes, MayGo}

-- the item may go next, and the tail is that after it, of at most 65,535 lives
pub record GoesNext (peer me : NodeId) (t : Tail) (next : Next) : Type 0 where
  pub may : MayGo peer me t next.item
  pub after : next.tail ≡ goes t next.item
  pub lives : next.tail.life ≤ LIFE_LIMIT
