use Rattle.scp_ledgers.proofs.archives.Archives.read.Goals as goal

pub returns-clause-added : goal.returns-clause-added
returns-clause-added g c = (c.in_ok-archive.archive, c.in_ok-archive.ensures.whole, c.in_ok-push.ensures.items)
