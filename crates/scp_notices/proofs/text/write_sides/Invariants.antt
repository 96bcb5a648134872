use Rattle.std.proofs.Common.{◌≡◌, ◌++◌, drop, string_bytes, flat_map}
use Rattle.scp_notices.specs.Texts.{side_text}
use Rattle.scp_notices.proofs.text.write_sides.Given as goal

-- with what is left it is all
abbrev pub invariant-loop-side : goal.invariant-loop-side
invariant-loop-side l = string_bytes l.text ++ flat_map side_text (drop l.side-index l.sides) ≡ string_bytes l.initial.text ++ flat_map side_text l.sides
