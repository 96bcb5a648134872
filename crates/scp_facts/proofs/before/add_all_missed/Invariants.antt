use Rattle.std.proofs.Common.{◌≡◌, ◌++◌, map, drop}
use Rattle.scp_facts.specs.Facts.{all_missed}
use Rattle.scp_facts.proofs.before.add_all_missed.Given as goal

-- with what is left it is all
abbrev pub invariant-loop-want : goal.invariant-loop-want
invariant-loop-want l = l.facts.items ++ all_missed (map (λ want. want.now) (drop l.want-index l.wants)) ≡ l.initial.facts.items ++ all_missed (map (λ want. want.now) l.wants)
