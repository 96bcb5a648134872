use Rattle.scp_facts.proofs.Newer.{newer_by}
use Rattle.scp_facts.proofs.standing.is_newer.Goals as goal

pub returns : goal.returns
returns c = newer_by c.newer.result c.args.old.now c.args.new.now c.newer.ensures
