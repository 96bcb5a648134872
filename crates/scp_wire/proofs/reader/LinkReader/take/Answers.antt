use Rattle.scp_wire.proofs.Shapes.{has_read}
use Rattle.scp_wire.proofs.reader.LinkReader.take.Goals as goal

pub returns-clause-reads : goal.returns-clause-reads
returns-clause-reads c = λ items given h. has_read items given _ _ c.args.item _ c.requires.no_rest h c.read.ensures.reading c.read.ensures.after
