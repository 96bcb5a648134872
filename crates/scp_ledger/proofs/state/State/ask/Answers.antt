use Rattle.scp_ledger.proofs.Stated.{sound_asked}
use Rattle.scp_ledger.proofs.state.State.ask.Goals as goal

pub returns-clause-sound : goal.returns-clause-sound
returns-clause-sound g c = sound_asked g.D.Driver.says.level g.D.Driver.says.extracted g.D.Driver.says.combined g.D.Driver.says.place c.args.self.now c.insert.new.self (record { link = c.args.link; slot = c.args.slot }) c.in_ok-insert.ensures.updates c.requires.sound
