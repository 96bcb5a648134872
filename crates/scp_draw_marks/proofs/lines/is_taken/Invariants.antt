use Rattle.std.proofs.Common.{◌≡◌, drop}
use Rattle.std.specs.List.{list_any}
use Rattle.scp_draw_marks.specs.Lines.{takes_it}
use Rattle.scp_draw_marks.proofs.lines.is_taken.Given as goal

-- what is left tells it of all
abbrev pub invariant-loop-next : goal.invariant-loop-next
invariant-loop-next l = list_any (takes_it l.nodes l.tellings l.mark) (drop l.next-index l.later) ≡ list_any (takes_it l.nodes l.tellings l.mark) l.later
