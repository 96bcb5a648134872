use Rattle.scp_ledger.proofs.Journaling.{journals_pass, takes_grow}
use Rattle.scp_ledger.proofs.laws.what_holds_of_a_ledger_holds_with_one_thing_more.Goals as goal

pub returns : goal.returns
returns g c = record {
  journals = journals_pass g.D.Driver.says.level g.D.Driver.says.extracted g.D.Driver.says.combined g.D.Driver.says.place;
  grows = takes_grow g.D.Driver.says.level g.D.Driver.says.extracted g.D.Driver.says.combined g.D.Driver.says.place;
}
