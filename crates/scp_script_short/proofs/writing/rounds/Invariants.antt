use Rattle.std.proofs.Common.{◌≡◌}
use Rattle.scp_script_short.specs.Lines.{rounds}
use Rattle.scp_script_short.proofs.writing.rounds.Given as goal

abbrev pub invariant-loop-time : goal.invariant-loop-time
invariant-loop-time l = l.lines.items ≡ rounds l.nodes l.slot l.time
