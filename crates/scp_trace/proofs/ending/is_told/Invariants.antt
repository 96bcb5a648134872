use Rattle.std.proofs.Common.{◌≡◌, take}
use Rattle.scp_trace.specs.Standing.{is_told}
use Rattle.scp_trace.proofs.ending.is_told.Given as goal

abbrev pub invariant-loop-command : goal.invariant-loop-command
invariant-loop-command l = l.told ≡ is_told l.number (take l.command-index l.commands)
