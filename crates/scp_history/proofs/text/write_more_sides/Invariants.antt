use Rattle.std.proofs.Common.{◌≡◌, ◌++◌, drop, flat_map, string_bytes}
use Rattle.scp_history.specs.Lines.{behind_bar}
use Rattle.scp_history.proofs.text.write_more_sides.Given as goal

-- with what is left it is all
abbrev pub invariant-loop-side : goal.invariant-loop-side
invariant-loop-side l = string_bytes l.text ++ flat_map (behind_bar l.by_number) (drop l.side-index l.sides) ≡ string_bytes l.fn.text ++ flat_map (behind_bar l.by_number) l.sides
