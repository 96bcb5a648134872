use Rattle.std.proofs.Common.{◌≡◌, drop}
use Rattle.std.specs.List.{list_any}
use Rattle.scp_draw.specs.Page.{splits}
use Rattle.scp_draw.proofs.section.has_split.Given as goal

-- what is left says it
abbrev pub invariant-loop-mark : goal.invariant-loop-mark
invariant-loop-mark l = list_any (splits l.nodes l.tellings l.all l.slot) (drop l.mark-index l.marks) ≡ list_any (splits l.nodes l.tellings l.all l.slot) l.marks
