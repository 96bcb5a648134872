use Rattle.scp_kv.proofs.Lists.{ops_in_found, ops_in_only, bytes_from_all}
use Rattle.scp_kv.proofs.laws.ops_in_finds_the_list.Goals as goal

pub returns-clause-found : goal.returns-clause-found
returns-clause-found c = λ bytes ops all e. ops_in_found bytes ops (bytes_from_all bytes all) e

pub returns-clause-only : goal.returns-clause-only
returns-clause-only c = ops_in_only
