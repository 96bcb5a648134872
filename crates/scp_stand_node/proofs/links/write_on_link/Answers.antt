use Rattle.std.proofs.Common.{append_assoc}
use Rattle.scp_stand_node.proofs.links.write_on_link.Goals as goal

pub returns-clause-added : goal.returns-clause-added
returns-clause-added c = rw (c.in_ok-writeln.ensures.bytes, c.in_ok-write_peer.ensures.added, c.in_ok-push_str.ensures.bytes, c.in_ok-write_me.ensures.added) (simp append_assoc)
