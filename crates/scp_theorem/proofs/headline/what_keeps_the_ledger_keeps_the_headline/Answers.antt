use Rattle.scp_theorem.proofs.KeepingHeadline.{ledger_keeps_headline}
use Rattle.scp_theorem.proofs.headline.what_keeps_the_ledger_keeps_the_headline.Goals as goal

pub returns : goal.returns
returns g c = record { headline = ledger_keeps_headline g.D.Driver.says.level g.D.Driver.says.extracted g.D.Driver.says.combined g.D.Driver.says.place }
