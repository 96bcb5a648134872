use Rattle.std.proofs.Common.{◌≡◌, ◌∙◌, nat_eq, sym}
use Rattle.std.specs.Cmp.Lexicographic.{pointwise}
use Rattle.scp_judged.proofs.Same.{values_decide}
use Rattle.scp_judged.proofs.contradicts.are_same_values.Goals as goal

pub returns : goal.returns
returns c =
    let e : c.eq.result ≡ pointwise (pointwise nat_eq) c.args.a.now c.args.b.now = c.eq.ensures in
    let decides = values_decide c.args.a.now c.args.b.now in
    (λ t. decides.0 (sym e ∙ t), λ same. e ∙ decides.1 same)
