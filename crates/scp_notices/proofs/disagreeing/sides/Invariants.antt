use Rattle.std.proofs.Common.{◌≡◌, map, take}
use Rattle.scp_notices.specs.Disagreeing.{each_once, side_of}
use Rattle.scp_notices.specs.inside.Choices.{choice_seen, values_seen}
use Rattle.scp_notices.proofs.disagreeing.sides.Given as goal

-- those of the values so far
abbrev pub invariant-loop-choice : goal.invariant-loop-choice
invariant-loop-choice l = record {
  at : l.index ≡ l.choice-index;
  so : l.sides.items ≡ map (side_of (map choice_seen l.choices)) (each_once (values_seen (take l.index l.choices)));
}
