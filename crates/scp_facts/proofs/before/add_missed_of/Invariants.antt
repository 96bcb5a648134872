use Rattle.std.proofs.Common.{◌≡◌, ◌++◌, map, drop}
use Rattle.scp_turn.specs.scp_wire.specs.declared.side.SideMessage.TheVariants.{NoSet}
use Rattle.scp_facts.specs.Facts.{missed_by}
use Rattle.scp_facts.proofs.before.add_missed_of.Given as goal

-- with what is left it is all
abbrev pub invariant-loop-want : goal.invariant-loop-want
invariant-loop-want l = l.facts.items ++ missed_by (NoSet l.hash) (map (λ want. want.now) (drop l.want-index l.wants)) ≡ l.initial.facts.items ++ missed_by (NoSet l.hash) (map (λ want. want.now) l.wants)
