use Rattle.std.proofs.Common.{◌≡◌, drop}
use Rattle.std.specs.Prelude.{option_map}
use Rattle.scp_draw_marks.specs.Lines.{row_said}
use Rattle.scp_draw_marks.proofs.lines.row_said.Given as goal

-- the first of what is left is the first of all
abbrev pub invariant-loop-mark : goal.invariant-loop-mark
invariant-loop-mark l =
    row_said l.tellings l.sender (option_map (λ s. s.now) l.statement) (drop l.mark-index l.marks) ≡ row_said l.tellings l.sender (option_map (λ s. s.now) l.statement) l.marks
