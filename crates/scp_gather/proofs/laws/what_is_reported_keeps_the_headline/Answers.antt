use Rattle.scp_gather.proofs.Headlines.{reports_keep_headline}
use Rattle.scp_gather.proofs.laws.what_is_reported_keeps_the_headline.Goals as goal

pub returns : goal.returns
returns g c = record {
  headline = reports_keep_headline g.D.Driver.says c.what_keeps_the_ledger_keeps_the_headline.ensures.headline;
}
