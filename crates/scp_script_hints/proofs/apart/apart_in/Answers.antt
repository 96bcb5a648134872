use Rattle.std.proofs.Common.{List, sym, subst}
use Rattle.scp_script_hints.specs.declared.hint.Hint.{Hint}
use Rattle.scp_script_hints.specs.Hints.{AreApart}
use Rattle.scp_script_hints.proofs.Telling.{apart_is}
use Rattle.scp_script_hints.proofs.apart.apart_in.Goals as goal

pub returns : goal.returns
returns c =
    let members = c.args.members.now in
    let found = c.in_ok-found in
    subst (λ (l : List Hint). AreApart members l) (sym c.hint_of.ensures) (apart_is members found.found found.ensures.one found.ensures.other found.ensures.disjoint found.ensures.none)
