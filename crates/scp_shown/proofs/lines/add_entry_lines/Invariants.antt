use Rattle.std.proofs.Common.{◌≡◌, ◌++◌, flat_map, map, take}
use Rattle.scp_shown.specs.Parts.{entry_of}
use Rattle.scp_shown.specs.LedgerLines.{entry_lines}
use Rattle.scp_shown.proofs.lines.add_entry_lines.Given as goal

-- of the entries so far
abbrev pub invariant-loop-part : goal.invariant-loop-part
invariant-loop-part l = l.lines.items ≡ l.fn.lines.items ++ flat_map entry_lines (map entry_of (take l.part-index l.parts))
