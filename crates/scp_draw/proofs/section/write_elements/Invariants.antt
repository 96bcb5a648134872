use Rattle.std.proofs.Common.{◌≡◌, ◌++◌, drop}
use Rattle.scp_draw.specs.Page.{elements_of}
use Rattle.scp_draw.proofs.section.write_elements.Given as goal

-- with those of what is left they are all
abbrev pub invariant-loop-index : goal.invariant-loop-index
invariant-loop-index l =
    l.out.items ++ elements_of l.picture.names.now l.picture.nodes.now l.picture.tellings.now l.picture.marks.now l.slot (drop l.index l.picture.marks.now)
    ≡ l.initial.out.items ++ elements_of l.picture.names.now l.picture.nodes.now l.picture.tellings.now l.picture.marks.now l.slot l.picture.marks.now
