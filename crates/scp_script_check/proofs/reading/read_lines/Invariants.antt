use Rattle.std.proofs.Common.{take}
use Rattle.scp_script_text.specs.Scripts.{lines_of}
use Rattle.scp_script_check.proofs.Taken.{HasTaken}
use Rattle.scp_script_check.proofs.reading.read_lines.Given as goal

-- the lines so far were read
abbrev pub invariant-loop-index : goal.invariant-loop-index
invariant-loop-index l = HasTaken (take l.index (lines_of l.text)) l.reading l.numbers.items
