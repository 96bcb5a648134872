use Rattle.std.proofs.Common.{◌≡◌, false}
use Rattle.scp_script_hints.specs.Hints.{is_known}
use Rattle.scp_script_hints.proofs.lines.is_of_script.Given as goal

-- it is none of those so far
abbrev pub invariant-loop-index : goal.invariant-loop-index
invariant-loop-index l = is_known l.index l.node ≡ false
