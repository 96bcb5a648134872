use Rattle.std.proofs.Common.{◌∙◌, sym, arith}
use Rattle.scp_counter_example.proofs.Bytes.{say_nothing, number_is_base, none_is_base}
use Rattle.scp_counter_example.proofs.counter.CounterApplication.begin.Goals as goal

pub returns-then-is_empty-clause-begun : goal.returns-then-is_empty-clause-begun
returns-then-is_empty-clause-begun c = say_nothing c.args.bytes.now c.if-is_empty.ensures

pub returns-in-Some-clause-known : goal.returns-in-Some-clause-known
returns-in-Some-clause-known c = number_is_base c.args.bytes.now c.in-Some.count (λ i. omega (arith, c.type_inv.bytes i)) (sym c.number_of_bytes.ensures ∙ c.in-Some.is)

pub returns-in-None-clause-refused : goal.returns-in-None-clause-refused
returns-in-None-clause-refused c = λ other. none_is_base c.args.bytes.now c.if-is_empty.ensures (sym c.number_of_bytes.ensures ∙ c.in-None.is)
