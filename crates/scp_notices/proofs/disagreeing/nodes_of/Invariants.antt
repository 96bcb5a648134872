use Rattle.std.proofs.Common.{◌≡◌, ◌++◌, drop, map}
use Rattle.scp_notices.specs.Disagreeing.{nodes_with}
use Rattle.scp_notices.specs.inside.Choices.{choice_seen}
use Rattle.scp_notices.proofs.disagreeing.nodes_of.Given as goal

-- with what is left it is all
abbrev pub invariant-loop-choice : goal.invariant-loop-choice
invariant-loop-choice l = l.nodes.items ++ nodes_with l.value (map choice_seen (drop l.choice-index l.choices)) ≡ nodes_with l.value (map choice_seen l.choices)
