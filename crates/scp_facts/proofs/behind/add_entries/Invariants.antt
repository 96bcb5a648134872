use Rattle.std.proofs.Common.{◌≡◌, ◌++◌, map}
use Rattle.scp_facts.specs.Facts.{entered, places}
use Rattle.scp_facts.proofs.behind.add_entries.Given as goal

-- with what is left it is all
abbrev pub invariant-loop-place : goal.invariant-loop-place
invariant-loop-place l = l.facts.items ++ map (entered l.node) (places l.place l.now) ≡ l.initial.facts.items ++ map (entered l.node) (places l.before l.now)
