use Rattle.std.proofs.Common.{◌+◌, arith}
use Rattle.scp_threaded_node.proofs.Rooms.{only_memory}
use Rattle.scp_threaded_node.proofs.make.inbox_of.Goals as goal

pub returns-clause-only_memory : goal.returns-clause-only_memory
returns-clause-only_memory c = only_memory c.inbox.result (c.args.links + 1) c.args.capacity c.inbox.ensures.only c.inbox.ensures.bad_config (record { some_producer = omega arith; few_producers = omega arith; some_room = omega arith; little_room = omega arith })
