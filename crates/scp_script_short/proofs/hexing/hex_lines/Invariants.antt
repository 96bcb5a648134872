use Rattle.std.proofs.Common.{take}
use Rattle.scp_script_short.specs.Hexing.{AreDigits}
use Rattle.scp_script_short.proofs.hexing.hex_lines.Given as goal

-- the lines so far were written
abbrev pub invariant-loop-placed : goal.invariant-loop-placed
invariant-loop-placed l = AreDigits (take l.placed-index l.lines) l.written.items
