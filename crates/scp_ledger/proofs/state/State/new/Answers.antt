use Rattle.scp_ledger.proofs.Stated.{sound_new}
use Rattle.scp_ledger.proofs.state.State.new.Goals as goal

pub returns-clause-sound : goal.returns-clause-sound
returns-clause-sound g c = sound_new g.D.Driver.says.level g.D.Driver.says.extracted g.D.Driver.says.combined g.D.Driver.says.place _ c.new.ensures.items c.new-2.ensures.items c.new-4.ensures.empty c.new-3.ensures c.requires.few
