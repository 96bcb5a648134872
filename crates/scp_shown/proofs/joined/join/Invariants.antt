use Rattle.std.proofs.Common.{map, take}
use Rattle.scp_history.specs.scp_judged.specs.Verdicts.{heard_of}
use Rattle.scp_shown.specs.Joined.{Joins}
use Rattle.scp_shown.proofs.joined.join.Given as goal

-- by those so far
abbrev pub invariant-loop-said : goal.invariant-loop-said
invariant-loop-said l = Joins (map heard_of l.fn.joined.items) (map heard_of (take l.said-index l.counting)) (map heard_of l.joined.items)
