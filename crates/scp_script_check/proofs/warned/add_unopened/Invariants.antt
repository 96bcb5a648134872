use Rattle.std.proofs.Common.{◌≡◌, ◌++◌, flat_map}
use Rattle.scp_script.specs.Nodes.{numbers}
use Rattle.scp_script_check.specs.Warnings.{unopened_from}
use Rattle.scp_script_check.proofs.warned.add_unopened.Given as goal

-- those so far
abbrev pub invariant-loop-index : goal.invariant-loop-index
invariant-loop-index l = l.out.items ≡ l.fn.out.items ++ flat_map (unopened_from l.whole.turns.now l.whole.commands.now l.from) (numbers l.index)
