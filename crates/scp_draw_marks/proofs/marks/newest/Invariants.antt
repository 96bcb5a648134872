use Rattle.std.proofs.Common.{◌≡◌, ◌≤◌, take, length}
use Rattle.scp_draw_marks.specs.Places.{newest}
use Rattle.scp_draw_marks.proofs.marks.newest.Given as goal

-- the newest of what is left is that of all
abbrev pub invariant-loop-left : goal.invariant-loop-left
invariant-loop-left l = record {
  within : l.left ≤ length l.letters;
  newest : newest l.conn l.seq (take l.left l.letters) ≡ newest l.conn l.seq l.letters;
}

abbrev pub decreases-loop-left : goal.decreases-loop-left
decreases-loop-left l = l.left
