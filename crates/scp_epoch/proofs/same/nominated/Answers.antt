use Rattle.std.proofs.Common.{◌∙◌, ap}
use Rattle.scp_again.specs.scp_vote.specs.Board.{Seen}
use Rattle.scp_again.specs.scp_nominate.specs.Nomination.{Nomination}
use Rattle.scp_epoch.proofs.same.nominated.Goals as goal

pub returns : goal.returns
returns g c = c.statement_of.ensures ∙ c.own.ensures.pledges ∙ ap (λ (b : Seen). b.statement b.me) (c.board.ensures.view ∙ ap (λ (n : Nomination). n.board) c.nominator.ensures.view)
