use Rattle.std.specs.Prelude.{false}
use Rattle.scp_ledger.specs.inside.State.{state_view}
use Rattle.scp_ledger.proofs.Journaling.{takes_grow}
use Rattle.scp_ledger.proofs.Standing.{stands}
use Rattle.scp_ledger.proofs.ledger.Ledger.take.Goals as goal

pub returns-in-Ok-clause-marks : goal.returns-in-Ok-clause-marks
returns-in-Ok-clause-marks g c = λ conn. rw (← c.self.view_is) (stands g.D.Driver.says.level g.D.Driver.says.extracted g.D.Driver.says.combined g.D.Driver.says.place conn (state_view false c.self.inside.state) c.in-Ok.took (state_view false c.take.new.self) c.args.ready c.in-Ok.ensures.takes)

pub returns-in-Ok-clause-takes : goal.returns-in-Ok-clause-takes
returns-in-Ok-clause-takes g c = rw (← c.self.view_is) (rw c.if-self.false c.in-Ok.ensures.takes)

pub returns-in-Ok-clause-tells : goal.returns-in-Ok-clause-tells
returns-in-Ok-clause-tells g c = rw (← c.self.view_is) (rw c.if-self.false c.in-Ok.ensures.tells)

pub returns-in-Ok-clause-first : goal.returns-in-Ok-clause-first
returns-in-Ok-clause-first g c = rw (← c.self.view_is) (takes_grow g.D.Driver.says.level g.D.Driver.says.extracted g.D.Driver.says.combined g.D.Driver.says.place (state_view false c.self.inside.state) c.args.ready c.in-Ok.took (state_view false c.take.new.self) c.in-Ok.ensures.takes).first
