use Rattle.scp_ledger.proofs.Standing.{stands}
use Rattle.scp_ledger.proofs.laws.the_journal_stands_for_what_was_taken.Goals as goal

pub returns : goal.returns
returns g c = λ conn old ready took new t. stands g.D.Driver.says.level g.D.Driver.says.extracted g.D.Driver.says.combined g.D.Driver.says.place conn old took new ready t
