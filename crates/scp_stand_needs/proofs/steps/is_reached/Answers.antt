use Rattle.std.proofs.Common.{◌∙◌, ◌↔◌, Bool, IfOk, IsTrue, sym, subst}
use Rattle.scp_ballot_rules.specs.scp_vote.specs.Board.{kind_of}
use Rattle.scp_ballot_rules.specs.scp_vote.specs.Seen.{seen}
use Rattle.scp_stand_needs.specs.inside.Found.{IsReached}
use Rattle.scp_stand_needs.proofs.steps.is_reached.Goals as goal

pub returns-then-confirms-clause-exact : goal.returns-then-confirms-clause-exact
returns-then-confirms-clause-exact c =
    subst (λ (t : Bool). IfOk c.confirmed.result (λ yes. IsTrue yes ↔ IsReached t (seen (kind_of c.args.claim.now) c.args.board.now) c.args.claim.now)) (sym c.if-confirms.true ∙ c.confirms.ensures) c.confirmed.ensures.exact

pub returns-else-confirms-clause-exact : goal.returns-else-confirms-clause-exact
returns-else-confirms-clause-exact c =
    subst (λ (t : Bool). IfOk c.accepted.result (λ yes. IsTrue yes ↔ IsReached t (seen (kind_of c.args.claim.now) c.args.board.now) c.args.claim.now)) (sym c.if-confirms.false ∙ c.confirms.ensures) c.accepted.ensures.exact
