use Rattle.scp_ballot.specs.inside.Machine.{IsSettled}
use Rattle.scp_ballot.specs.inside.Exactly.{GoesTo}
use Rattle.scp_ballot.proofs.machine.Machine.settle.Given as goal

abbrev pub invariant-loop : goal.invariant-loop
invariant-loop l = record {
  settled : IsSettled l.fn.self l.fn.first l.self;
  goes : GoesTo l.fn.self l.fn.first l.self l.counter;
}
