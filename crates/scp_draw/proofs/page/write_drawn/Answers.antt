use Rattle.scp_draw.proofs.Adding.{drawn_more}
use Rattle.scp_draw.proofs.page.write_drawn.Goals as goal

pub returns-clause-added : goal.returns-clause-added
returns-clause-added c = λ d p m.
    drawn_more c.write_bottom.result c.args.run.names.now c.args.run.nodes.now c.args.run.tellings.now c.args.run.count c.args.ending.now d c.args.pens.now c.args.marks.now
    c.args.out.now.items c.write_top.new.out.items c.write_sections.new.out.items c.write_bottom.new.out.items p m
    c.in_ok-write_top.ensures.added c.in_ok-write_sections.ensures.added c.write_bottom.ensures.added
