use Rattle.std.proofs.Common.{◌≡◌, length, take}
use Rattle.scp_script.specs.Words.{lines_of}
use Rattle.scp_script.specs.Script.{AreLines, commands_of}
use Rattle.scp_script.specs.Reading.{Knows}
use Rattle.scp_script.proofs.judging.first_bad_line.Given as goal

-- so many lines were taken in, and they are a script's
abbrev pub invariant-loop-line : goal.invariant-loop-line
invariant-loop-line l = record {
  number : l.number ≡ length l.yielded;
  knows : Knows l.known (commands_of (take (length l.yielded) (lines_of l.text)));
  good : AreLines (take (length l.yielded) (lines_of l.text));
}
