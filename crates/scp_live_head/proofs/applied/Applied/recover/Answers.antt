use Rattle.std.proofs.Common.{ℕ, List, take, ◌∙◌, subst}
use Rattle.scp_live_head.specs.Applied.{IsKeptBelow}
use Rattle.scp_live_head.proofs.applied.Applied.recover.Goals as goal

pub returns-clause-kept : goal.returns-clause-kept
returns-clause-kept g c file h =
    let is = c.deref.ensures.value ∙ c.in_ok-bytes.ensures.bytes file h in
    let cut = c.in_ok-cut_to.ensures.cut file (c.read.ensures.stays file h) in
    (take c.in_ok-size.size file, subst (λ (l : List ℕ). IsKeptBelow c.args.first l (take c.in_ok-size.size l)) is c.in_ok-size.ensures.kept, cut.0, cut.1)
