use Rattle.std.proofs.Common.{◌≡◌, drop}
use Rattle.scp_draw_marks.specs.Places.{pen_of}
use Rattle.scp_draw_marks.proofs.marks.pen_of.Given as goal

-- the pen of what is left is that of all
abbrev pub invariant-loop-pen : goal.invariant-loop-pen
invariant-loop-pen l = pen_of l.slot (drop l.pen-index l.pens) ≡ pen_of l.slot l.pens
