use Rattle.std.proofs.Common.{◌≡◌, ◌+◌, ◌≤◌, drop, filter, length}
use Rattle.scp_draw_marks.specs.Looks.{decides}
use Rattle.scp_draw_marks.proofs.looks.decided_count.Given as goal

-- with those of what is left they are all
abbrev pub invariant-loop-mark : goal.invariant-loop-mark
invariant-loop-mark l = record {
  within : l.count ≤ l.mark-index;
  all : l.count + length (filter (decides l.slot) (drop l.mark-index l.marks)) ≡ length (filter (decides l.slot) l.marks);
}
