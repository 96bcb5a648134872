use Rattle.std.proofs.Common.{◌-◌, Contains}
use Rattle.scp_driver.specs.Driver.{IsFull}
use Rattle.scp_nominate.specs.Heard.{heard}
use Rattle.scp_nominate.specs.inside.Own.{size}
use Rattle.scp_nominate.specs.Owed.{MayVote, VotesFor}
use Rattle.scp_nominate.specs.inside.State.{IsSettling}
use Rattle.scp_nominate.specs.Steps.{own_lists}
use Rattle.scp_nominate.proofs.Repeated.{GoesRound}
use Rattle.scp_nominate.proofs.state.State.settle.Given as goal

abbrev pub invariant-loop-self : goal.invariant-loop-self
invariant-loop-self g l = record {
  settling : IsSettling (IsFull (g.D.Driver.says.level l.guide.driver) l.guide.slot.0) l.fn.self l.self l.renewed;
  votes : VotesFor
      (MayVote (IsFull (g.D.Driver.says.level l.guide.driver) l.guide.slot.0) (g.D.Driver.says.extracted l.guide.driver l.guide.slot.0) (λ node. Contains l.guide.leaders.items node) l.guide.proposal (heard l.self.board))
      (own_lists l.fn.self.lists)
      (own_lists l.self.lists);
  exact : GoesRound (record { full = IsFull (g.D.Driver.says.level l.guide.driver) l.guide.slot.0; extracted = g.D.Driver.says.extracted l.guide.driver l.guide.slot.0; leads = λ node. Contains l.guide.leaders.items node; proposal = l.guide.proposal }) l.fn.self.hash (heard l.fn.self.board) (own_lists l.fn.self.lists) (heard l.self.board) (own_lists l.self.lists);
}

abbrev pub decreases-loop-self : goal.decreases-loop-self
decreases-loop-self g l = 14 - size l.self.lists
