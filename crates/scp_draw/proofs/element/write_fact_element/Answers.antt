use Rattle.std.proofs.Common.{◌∙◌}
use Rattle.scp_draw_marks.specs.Looks.{is_against}
use Rattle.scp_draw_marks.specs.Lines.{start_of}
use Rattle.scp_draw.specs.Elements.{front_text, title_text, back_text, reaches}
use Rattle.scp_draw.proofs.Adding.{filled}
use Rattle.scp_draw.proofs.element.write_fact_element.Goals as goal

pub returns-clause-added : goal.returns-clause-added
returns-clause-added c =
    let v = c.args.node.now in
    let mark = c.args.mark.now in
    let told = c.args.told.now in
    let p = c.args.picture in
    filled c.args.out.now.items c.as_str.result.now (front_text v mark (reaches p.nodes.now p.tellings.now mark c.args.later.now) (is_against p.nodes.now p.tellings.now p.marks.now mark) told.fact)
    c.as_str-2.result.now (title_text p.names.now v mark told) c.as_str-3.result.now (back_text v mark (start_of p.nodes.now p.tellings.now p.marks.now mark) told.fact) c.add_parts.new.out.items
    (c.as_str.ensures.value ∙ c.in_ok-front.ensures.text) (c.as_str-2.ensures.value ∙ c.in_ok-title.ensures.text v c.requires.there) (c.as_str-3.ensures.value ∙ c.in_ok-back.ensures.text) c.in_ok-add_parts.ensures.added
