use Rattle.std.proofs.Common.{◌≡◌, ◌+◌, false, length, take}
use Rattle.std.specs.List.{list_any}
use Rattle.scp_script_text.specs.Scripts.{lines_of, carries}
use Rattle.scp_script_check.proofs.reading.are_bare.Given as goal

-- so many lines were gone through
abbrev pub invariant-loop-line : goal.invariant-loop-line
invariant-loop-line l = record {
  left : l.left + length l.yielded ≡ l.count;
  bare : list_any carries (take (length l.yielded) (lines_of l.text)) ≡ false;
}
