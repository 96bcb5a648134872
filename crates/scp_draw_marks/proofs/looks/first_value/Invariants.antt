use Rattle.std.proofs.Common.{◌≡◌, drop, filter}
use Rattle.scp_draw_marks.specs.Looks.{decides, first_value}
use Rattle.scp_draw_marks.proofs.looks.first_value.Given as goal

-- the first of what is left is the first of all
abbrev pub invariant-loop-mark : goal.invariant-loop-mark
invariant-loop-mark l = first_value l.nodes l.tellings (filter (decides l.slot) (drop l.mark-index l.marks)) ≡ first_value l.nodes l.tellings (filter (decides l.slot) l.marks)
