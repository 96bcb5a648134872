use Rattle.std.proofs.Common.{refl}
use Rattle.scp_wire.proofs.Shapes.{has_given}
use Rattle.scp_wire.proofs.reader.LinkReader.rest.Goals as goal

pub returns-clause-reads : goal.returns-clause-reads
returns-clause-reads c = λ items given h. has_given items given _ _ c.next.result h (rw (← c.self.view_is) c.next.ensures.items) (rw (← c.self.view_is) refl)
