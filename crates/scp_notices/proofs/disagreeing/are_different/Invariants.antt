use Rattle.std.proofs.Common.{◌≡◌, drop, map}
use Rattle.std.specs.Prelude.{not}
use Rattle.std.specs.List.{list_any}
use Rattle.scp_notices.specs.Disagreeing.{same_value}
use Rattle.scp_notices.specs.inside.Choices.{choice_seen}
use Rattle.scp_notices.proofs.disagreeing.are_different.Given as goal

-- what is left tells it
abbrev pub invariant-loop-other : goal.invariant-loop-other
invariant-loop-other l = list_any (λ other. not (same_value other.value l.first.value.now)) (map choice_seen (drop l.other-index l.rest)) ≡ list_any (λ other. not (same_value other.value l.first.value.now)) (map choice_seen l.rest)
