use Rattle.std.proofs.Common.{◌≡◌, drop}
use Rattle.scp_notices.specs.inside.Choices.{values_seen, has_value}
use Rattle.scp_notices.proofs.disagreeing.is_among.Given as goal

-- what is left tells it
abbrev pub invariant-loop-choice : goal.invariant-loop-choice
invariant-loop-choice l = has_value l.value (values_seen (drop l.choice-index l.choices)) ≡ has_value l.value (values_seen l.choices)
