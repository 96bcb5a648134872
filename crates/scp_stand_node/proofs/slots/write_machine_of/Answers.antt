use Rattle.std.proofs.Common.{string_bytes}
use Rattle.scp_stand_node.proofs.Whole.{nothing_told}
use Rattle.scp_stand_node.proofs.slots.write_machine_of.Goals as goal

pub returns-in-Some-clause-added : goal.returns-in-Some-clause-added
returns-in-Some-clause-added c = rw c.in-Some.is c.write_told.ensures.added

pub returns-in-None-clause-added : goal.returns-in-None-clause-added
returns-in-None-clause-added c = rw c.in-None.is (nothing_told (string_bytes c.args.out.now))
