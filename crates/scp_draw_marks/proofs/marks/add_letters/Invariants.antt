use Rattle.std.proofs.Common.{◌≡◌, ◌-◌}
use Rattle.scp_draw_marks.specs.Places.{with_letters}
use Rattle.scp_draw_marks.proofs.marks.add_letters.Given as goal

-- with those that are left they are all
abbrev pub invariant-loop : goal.invariant-loop
invariant-loop l = with_letters (l.count - l.counter) l.conn l.topic l.row l.letters.items ≡ with_letters l.count l.conn l.topic l.row l.initial.letters.items
