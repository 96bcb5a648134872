use Rattle.std.proofs.Common.{◌≡◌, drop}
use Rattle.scp_draw_marks.specs.Looks.{is_sent}
use Rattle.scp_draw_marks.proofs.looks.is_sent.Given as goal

-- what is left tells it of all
abbrev pub invariant-loop-next : goal.invariant-loop-next
invariant-loop-next l = is_sent l.mark (drop l.next-index l.later) ≡ is_sent l.mark l.later
