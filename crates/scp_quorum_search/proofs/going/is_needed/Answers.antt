use Rattle.std.proofs.Common.{◌≡◌, true, false, refl, sym, ◌∙◌}
use Rattle.scp_quorum.specs.NodeSet.{is_in}
use Rattle.scp_quorum_search.proofs.going.is_needed.Goals as goal

pub returns-then-not-contains : goal.returns-then-not-contains
returns-then-not-contains c =
    let out : is_in c.args.lost.now c.args.node.now ≡ false = sym c.contains.ensures ∙ c.if-not-contains.true in
    (λ e has. absurd (let f : true ≡ false = sym has ∙ out in cc), λ needed. refl)

pub returns : goal.returns
returns c =
    let has : is_in c.args.lost.now c.args.node.now ≡ true = sym c.contains.ensures ∙ c.if-not-contains.false in
    (λ e _. c.in_ok-goes.ensures.0 e, λ needed. c.in_ok-goes.ensures.1 (needed has))
