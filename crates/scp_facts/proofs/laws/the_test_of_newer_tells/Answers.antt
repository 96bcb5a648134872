use Rattle.scp_facts.proofs.Newer.{newer_is_told}
use Rattle.scp_facts.proofs.laws.the_test_of_newer_tells.Goals as goal

pub returns : goal.returns
returns c = newer_is_told
