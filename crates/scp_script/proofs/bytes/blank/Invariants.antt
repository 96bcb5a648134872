use Rattle.std.proofs.Common.{◌≡◌, drop}
use Rattle.scp_script.specs.Reasons.{blank_in}
use Rattle.scp_script.proofs.bytes.blank.Given as goal

-- the first of what is left is the first of all
abbrev pub invariant-loop-byte : goal.invariant-loop-byte
invariant-loop-byte l = blank_in (drop l.byte-index l.word) ≡ blank_in l.word
