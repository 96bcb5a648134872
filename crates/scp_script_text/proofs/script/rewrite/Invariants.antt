use Rattle.std.proofs.Common.{take}
use Rattle.scp_script_text.specs.Scripts.{lines_of}
use Rattle.scp_script_text.proofs.Writing.{HasWritten}
use Rattle.scp_script_text.proofs.script.rewrite.Given as goal

-- the lines so far were written
abbrev pub invariant-loop-index : goal.invariant-loop-index
invariant-loop-index l = HasWritten l.kind l.form (take l.index (lines_of l.script)) l.out.items l.first
