use Rattle.std.proofs.Common.{Bool, codes, ◌∙◌, ap}
use Rattle.scp_draw.specs.Page.{elements_of, section_front, is_split}
use Rattle.scp_draw.proofs.Adding.{section_added}
use Rattle.scp_draw.proofs.section.write_section.Goals as goal

pub returns-clause-added : goal.returns-clause-added
returns-clause-added c =
    let p = c.args.picture in
    let pen = c.args.pen.now in
    section_added c.args.out.now.items c.extend_from_slice.new.self.items c.write_elements.new.out.items c.extend_from_slice-2.new.self.items
    c.as_bytes.result.now (section_front c.args.count c.args.opened (is_split p.nodes.now p.tellings.now p.marks.now pen.slot) p.marks.now pen)
    (elements_of p.names.now p.nodes.now p.tellings.now p.marks.now pen.slot p.marks.now) (codes "</g></svg></details>\n")
    (c.as_bytes.ensures.value ∙ c.in_ok-front.ensures.text ∙ ap (λ (split : Bool). section_front c.args.count c.args.opened split p.marks.now pen) c.is_split-split.ensures)
    c.in_ok-extend_from_slice.ensures.items c.in_ok-write_elements.ensures.added c.in_ok-extend_from_slice-2.ensures.items
