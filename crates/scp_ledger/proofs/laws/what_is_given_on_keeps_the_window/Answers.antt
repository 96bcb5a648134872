use Rattle.scp_ledger.proofs.Journaling.{ledger_keeps_window}
use Rattle.scp_ledger.proofs.laws.what_is_given_on_keeps_the_window.Goals as goal

pub returns : goal.returns
returns g c = record { given = ledger_keeps_window g.D.Driver.says.level g.D.Driver.says.extracted g.D.Driver.says.combined g.D.Driver.says.place }
