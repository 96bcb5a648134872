use Rattle.std.proofs.Common.{◌∙◌, map, sym, ap, subst}
use Rattle.scp_ledger.specs.scp_envelope.specs.declared.statement.Envelope.{Envelope}
use Rattle.scp_judged.specs.Verdicts.{heard_of}
use Rattle.scp_judged.specs.inside.Externalized.{IsNoExternalize}
use Rattle.scp_judged.proofs.Certifying.{other_here}
use Rattle.scp_judged.proofs.certificates.certified_last.Goals as goal

pub certificate_of-requires-clause-said : goal.certificate_of-requires-clause-said
certificate_of-requires-clause-said c = ap (λ (e : Envelope). e.statement.pledges) (sym c.get-envelope.ensures) ∙ c.in-Some.ensures.found

pub returns-in-None-clause-none : goal.returns-in-None-clause-none
returns-in-None-clause-none c =
    other_here (map heard_of c.args.counting.now) c.args.node (heard_of c.args.said.now) c.requires.last
    (subst (λ (e : Envelope). IsNoExternalize e.statement.pledges) c.get-envelope.ensures c.in-None.ensures.none)
