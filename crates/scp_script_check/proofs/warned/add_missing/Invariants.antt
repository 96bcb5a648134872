use Rattle.std.proofs.Common.{◌≡◌, ◌++◌, flat_map}
use Rattle.scp_script.specs.Nodes.{numbers}
use Rattle.scp_script_check.specs.Warnings.{unopened_from}
use Rattle.scp_script_check.proofs.warned.add_missing.Given as goal

-- those so far
abbrev pub invariant-loop-index : goal.invariant-loop-index
invariant-loop-index l = l.out.items ≡ l.fn.out.items ++ flat_map (λ from. flat_map (unopened_from l.whole.turns.now l.whole.commands.now from) (numbers l.count)) (numbers l.index)
