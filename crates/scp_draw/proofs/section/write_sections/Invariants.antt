use Rattle.std.proofs.Common.{◌≡◌, ◌++◌, drop, flat_map}
use Rattle.scp_draw.specs.Page.{section_in}
use Rattle.scp_draw.proofs.section.write_sections.Given as goal

-- with those of what is left they are all
abbrev pub invariant-loop-pen : goal.invariant-loop-pen
invariant-loop-pen l =
    l.out.items ++ flat_map (section_in l.picture.names.now l.picture.nodes.now l.picture.tellings.now l.count l.picture.marks.now l.pens) (drop l.pen-index l.pens)
    ≡ l.initial.out.items ++ flat_map (section_in l.picture.names.now l.picture.nodes.now l.picture.tellings.now l.count l.picture.marks.now l.pens) l.pens
