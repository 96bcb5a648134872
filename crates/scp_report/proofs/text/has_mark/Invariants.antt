use Rattle.std.proofs.Common.{◌≡◌, drop}
use Rattle.scp_report.specs.Text.{has_equals}
use Rattle.scp_report.proofs.text.has_mark.Given as goal

-- what is left tells it
abbrev pub invariant-loop-byte : goal.invariant-loop-byte
invariant-loop-byte l = has_equals (drop l.byte-index l.bytes) ≡ has_equals l.bytes
