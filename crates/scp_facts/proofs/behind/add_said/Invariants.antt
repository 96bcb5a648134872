use Rattle.std.proofs.Common.{◌≡◌, ◌++◌, map, drop}
use Rattle.scp_facts.specs.declared.fact.Fact.TheVariants.{Says}
use Rattle.scp_facts.proofs.behind.add_said.Given as goal

-- with what is left it is all
abbrev pub invariant-loop-envelope : goal.invariant-loop-envelope
invariant-loop-envelope l = l.facts.items ++ map (λ envelope. Says envelope) (drop l.envelope-index l.said) ≡ l.initial.facts.items ++ map (λ envelope. Says envelope) l.said
