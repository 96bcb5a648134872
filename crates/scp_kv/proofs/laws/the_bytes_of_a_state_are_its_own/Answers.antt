use Rattle.scp_kv.proofs.Bytes.{state_found, state_only}
use Rattle.scp_kv.proofs.laws.the_bytes_of_a_state_are_its_own.Goals as goal

pub returns-clause-found : goal.returns-clause-found
returns-clause-found c = state_found

pub returns-clause-only : goal.returns-clause-only
returns-clause-only c = state_only
