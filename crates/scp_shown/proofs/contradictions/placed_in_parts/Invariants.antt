use Rattle.std.proofs.Common.{◌≡◌, map, take}
use Rattle.scp_shown.specs.Parts.{entry_of}
use Rattle.scp_shown.specs.Contradictions.{placed_of}
use Rattle.scp_shown.specs.inside.Placing.{placed}
use Rattle.scp_shown.proofs.contradictions.placed_in_parts.Given as goal

-- of the entries so far
abbrev pub invariant-loop-part : goal.invariant-loop-part
invariant-loop-part l = map placed l.all.items ≡ placed_of (map entry_of (take l.part-index l.parts))
