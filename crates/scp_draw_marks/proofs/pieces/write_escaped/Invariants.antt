use Rattle.std.proofs.Common.{◌≡◌, ◌++◌, flat_map, drop}
use Rattle.scp_draw_marks.specs.Pieces.{escaped_byte}
use Rattle.scp_draw_marks.proofs.pieces.write_escaped.Given as goal

-- with what is left it is all
abbrev pub invariant-loop-byte : goal.invariant-loop-byte
invariant-loop-byte l = l.out.items ++ flat_map escaped_byte (drop l.byte-index l.text) ≡ l.initial.out.items ++ flat_map escaped_byte l.text
