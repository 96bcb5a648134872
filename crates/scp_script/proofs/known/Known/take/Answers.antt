use Rattle.std.proofs.Common.{sym, ap, subst, refl}
use Rattle.scp_script.specs.declared.known.Known.{Known}
use Rattle.scp_script.specs.declared.links.Links.{Links}
use Rattle.scp_script.specs.Reading.{KnowsLinks}
use Rattle.scp_script.proofs.Judged.{knows_more}
use Rattle.scp_script.proofs.known.Known.take.Goals as goal

pub returns-clause-known : goal.returns-clause-known
returns-clause-known c = λ before knows yes.
    let old = c.args.self.now in
    let noted = c.note.new.self in
    let new = c.note_link.new.self in
    let same : KnowsLinks noted.links before = subst (λ (l : Links). KnowsLinks l before) (sym (ap (λ (k : Known). k.links) c.note.ensures.rest)) knows.links in
    knows_more old noted new before c.args.command.now knows c.note.ensures.count c.note.ensures.begun (ap (λ (k : Known). k.count) c.note_link.ensures.rest) (ap (λ (k : Known). k.has_begun) c.note_link.ensures.rest) (c.note_link.ensures.links before same ((c.if-not-admits.ensures before knows).0 refl))
