use Rattle.std.proofs.Common.{◌≡◌, ◌++◌, take, drop}
use Rattle.scp_draw_marks.specs.Places.{with_pen}
use Rattle.scp_draw_marks.proofs.marks.put_pen.Given as goal

-- no pen so far is of the section
abbrev pub invariant-loop-index : goal.invariant-loop-index
invariant-loop-index l = record {
  same : l.pens.items ≡ l.initial.pens.items;
  put : take l.index l.initial.pens.items ++ with_pen l.pen (drop l.index l.initial.pens.items) ≡ with_pen l.pen l.initial.pens.items;
}
