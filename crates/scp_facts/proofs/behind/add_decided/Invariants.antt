use Rattle.std.proofs.Common.{◌≡◌, ◌++◌, map}
use Rattle.scp_facts.specs.declared.fact.Fact.TheVariants.{Decided}
use Rattle.scp_facts.specs.Facts.{places}
use Rattle.scp_facts.proofs.behind.add_decided.Given as goal

-- with what is left it is all
abbrev pub invariant-loop-place : goal.invariant-loop-place
invariant-loop-place l = l.facts.items ++ map (λ place. Decided place) (places l.place l.now) ≡ l.initial.facts.items ++ map (λ place. Decided place) (places l.before l.now)
