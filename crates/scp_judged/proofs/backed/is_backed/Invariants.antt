use Rattle.std.proofs.Common.{map, take}
use Rattle.std.specs.List.{AllByRecursion}
use Rattle.scp_judged.specs.Verdicts.{heard_of, heard_by}
use Rattle.scp_judged.specs.inside.Backed.{HasNoneAt}
use Rattle.scp_judged.proofs.backed.is_backed.Given as goal

abbrev pub invariant-loop-said : goal.invariant-loop-said
invariant-loop-said l = AllByRecursion (HasNoneAt (heard_by (map heard_of l.counting)) l.value l.node) (map heard_of (take l.said-index l.counting))
