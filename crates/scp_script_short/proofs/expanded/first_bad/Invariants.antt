use Rattle.std.proofs.Common.{◌≡◌, ◌+◌, drop}
use Rattle.scp_script_short.specs.Scripts.{first_bad}
use Rattle.scp_script_short.proofs.expanded.first_bad.Given as goal

-- none so far is bad
abbrev pub invariant-loop-index : goal.invariant-loop-index
invariant-loop-index l = first_bad (l.index + 1) (drop l.index l.script) ≡ first_bad 1 l.script
