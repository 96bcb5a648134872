use Rattle.std.proofs.Common.{◌≡◌, ◌++◌, flat_map, map}
use Rattle.scp_line.specs.scp_script.specs.Nodes.{numbers}
use Rattle.scp_notices.specs.Disagreeing.{disagreement}
use Rattle.scp_notices.specs.inside.Seen.{applied_in}
use Rattle.scp_notices.proofs.disagreeing.add_disagreements.Given as goal

-- of the slots so far all was told
abbrev pub invariant-loop-place : goal.invariant-loop-place
invariant-loop-place l = l.out.items ≡ l.initial.out.items ++ flat_map (disagreement (map applied_in l.reports)) (numbers l.place)
