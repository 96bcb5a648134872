use Rattle.std.proofs.Common.{take}
use Rattle.scp_script.specs.Words.{lines_of}
use Rattle.scp_script.specs.Script.{AreLines}
use Rattle.scp_script.specs.inside.Reading.{HasRead}
use Rattle.scp_script.proofs.parsing.read.Given as goal

-- the lines so far are a script's, and were taken in
abbrev pub invariant-loop-index : goal.invariant-loop-index
invariant-loop-index l = record {
  read : HasRead l.reading (take l.index (lines_of l.text));
  good : AreLines (take l.index (lines_of l.text));
}
