use Rattle.std.specs.Prelude.{[]}
use Rattle.scp_core.proofs.Headlines.{ledger_gives_headline}
use Rattle.scp_core.proofs.laws.each_node_holds_its_headline.Goals as goal

pub returns : goal.returns
returns g c = record {
  headline = ledger_gives_headline g.A.Driver.says (λ bytes. g.A.Application.first) g.A.Application.after 1 [] c.what_keeps_the_ledger_keeps_the_headline.ensures.headline;
  from = λ first base. ledger_gives_headline g.A.Driver.says g.A.Application.begins g.A.Application.after first base c.what_keeps_the_ledger_keeps_the_headline.ensures.headline;
}
