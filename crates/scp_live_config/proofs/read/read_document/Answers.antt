use Rattle.std.proofs.Common.{sym, subst, Option}
use Rattle.std.specs.Prelude.{IsSomeAnd}
use Rattle.toml.specs.Data.{Members}
use Rattle.toml.specs.View.{table_view}
use Rattle.scp_live_config.specs.Config.{IsConfigOf}
use Rattle.scp_live_config.proofs.Lifting.{doc_wrong}
use Rattle.scp_live_config.proofs.read.read_document.Goals as goal

pub returns-in-Ok-clause-read : goal.returns-in-Ok-clause-read
returns-in-Ok-clause-read c = subst (λ (o : Option Members). IsSomeAnd o (λ said. IsConfigOf said c.in-Ok.settings)) (sym c.requires.parsed) c.in-Ok.ensures.read

pub returns-in-Err-clause-refused : goal.returns-in-Err-clause-refused
returns-in-Err-clause-refused c = doc_wrong c.args.text.now (table_view c.args.doc.now) c.in-Err.fault c.requires.parsed c.in-Err.ensures.wrong
