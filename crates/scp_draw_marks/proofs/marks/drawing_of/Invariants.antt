use Rattle.std.proofs.Common.{◌≡◌, drop}
use Rattle.scp_draw_marks.specs.Places.{with_tellings, drawn}
use Rattle.scp_draw_marks.proofs.marks.drawing_of.Given as goal

-- with what is left it is all
abbrev pub invariant-loop-at : goal.invariant-loop-at
invariant-loop-at l = with_tellings l.nodes l.at (drop l.at l.tellings) l.drawing ≡ drawn l.nodes l.tellings
