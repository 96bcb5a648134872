use Rattle.std.proofs.Common.{rules, ap, length}
use Rattle.scp_theorem.specs.scp_wire.specs.LinkReading.{reading}
use Rattle.scp_core.specs.contracts.link.Link.{the_view}
use Rattle.scp_core.proofs.Links.{read_into, one_out}
use Rattle.scp_core.proofs.link.Link.read.Goals as goal

pub returns-in-Ok : goal.returns-in-Ok
returns-in-Ok c = (search rules, c.in-Some.item, c.next.new.queue.items, rw (← c.self.view_is) c.in-Some.ensures.item, rw (← c.self.view_is, c.next.ensures.room, c.in-Ok.ensures.reading, c.in-Ok.ensures.after) (read_into (the_view c.self.inside) c.in-Some.item c.next.new.queue.items (reading c.self.inside.reader.at c.in-Some.item)))

pub returns-in-Err : goal.returns-in-Err
returns-in-Err c = (search rules, search rules, search rules, rw (← c.self.view_is) (one_out c.self.inside.queue.capacity c.next.new.queue.capacity (length c.self.inside.queue.items) (length c.next.new.queue.items) c.next.ensures.room (ap length c.in-Some.ensures.item) c.next.ensures.within))
