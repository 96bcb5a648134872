use Rattle.std.proofs.Common.{append_assoc}
use Rattle.scp_draw.proofs.element.write_front.Goals as goal

pub returns-clause-added : goal.returns-clause-added
returns-clause-added c = simp (c.in_ok-push_str.ensures.bytes, c.in_ok-write_sender.ensures.added, c.in_ok-write_class.ensures.added, c.in_ok-write.ensures.bytes, c.came_by.ensures, c.word_of_kind-kind.ensures, append_assoc)
