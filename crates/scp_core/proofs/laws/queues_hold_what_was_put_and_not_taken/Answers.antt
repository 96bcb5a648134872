use Rattle.scp_core.proofs.Rooms.{theorem_gives_room}
use Rattle.scp_core.proofs.laws.queues_hold_what_was_put_and_not_taken.Goals as goal

pub returns : goal.returns
returns g c = record { room = theorem_gives_room g.D.Driver.says }
