use Rattle.scp_driver.proofs.Bases.{cannot_be_said}
use Rattle.scp_driver.proofs.kv_driver.KvDriverApplication.write.Goals as goal

pub returns-clause-too_long : goal.returns-clause-too_long
returns-clause-too_long c = λ is. cannot_be_said c.the_bytes_of_a_state_are_its_own.ensures.found c.args.state.now (c.encode.ensures.too_long is)
