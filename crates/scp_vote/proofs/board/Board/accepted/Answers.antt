use Rattle.std.proofs.Common.{◌≡◌, ◌∙◌, ◌↔◌, IsTrue, IfOk, ap, subst}
use Rattle.scp_vote.specs.Board.{Seen, kind_of, Accepted}
use Rattle.scp_vote.specs.Seen.{seen}
use Rattle.scp_vote.specs.inside.Side.{side}
use Rattle.scp_vote.proofs.board.Board.accepted.Goals as goal

pub returns-clause-exact : goal.returns-clause-exact
returns-clause-exact c =
    let same : side c.of.result ≡ seen (kind_of c.args.claim.now) c.args.self.now = c.of.ensures.same ∙ ap (λ k. seen k c.args.self.now) c.kind.ensures in
    subst (λ (s : Seen). IfOk c.accepted.result (λ yes. IsTrue yes ↔ Accepted s c.args.claim.now)) same c.accepted.ensures.exact
