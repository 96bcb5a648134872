use Rattle.std.proofs.Common.{arith}
use Rattle.scp_threaded_node.proofs.Rooms.{only_memory}
use Rattle.scp_threaded_node.proofs.make.decided_of.Goals as goal

pub returns-clause-only_memory : goal.returns-clause-only_memory
returns-clause-only_memory c = only_memory c.decided.result 1 c.args.capacity c.decided.ensures.only c.decided.ensures.bad_config (record { some_producer = omega arith; few_producers = omega arith; some_room = omega arith; little_room = omega arith })
