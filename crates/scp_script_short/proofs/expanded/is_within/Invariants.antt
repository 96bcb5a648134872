use Rattle.std.proofs.Common.{◌≡◌, ◌+◌, drop}
use Rattle.scp_script_short.specs.declared.expanded.TheConstants.{LINE_LIMIT}
use Rattle.scp_script_short.specs.Scripts.{weight_in}
use Rattle.scp_script_short.proofs.expanded.is_within.Given as goal

-- what is left of the limit, and of the lines
abbrev pub invariant-loop-said : goal.invariant-loop-said
invariant-loop-said l = weight_in (drop l.said-index l.script) + LINE_LIMIT ≡ weight_in l.script + l.left
