use Rattle.std.proofs.Common.{◌≡◌, ◌++◌, map}
use Rattle.scp_facts.specs.Telling.{of_node}
use Rattle.scp_facts.proofs.watch.add_all.Given as goal

-- those so far
abbrev pub invariant-loop-fact : goal.invariant-loop-fact
invariant-loop-fact l = (l.tellings.items ≡ l.initial.tellings.items ++ map (of_node l.number) l.yielded) × (l.fn.facts.items ≡ l.yielded ++ l.fact-iterator.rest.items)
