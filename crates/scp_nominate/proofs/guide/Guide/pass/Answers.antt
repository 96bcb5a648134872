use Rattle.std.proofs.Common.{refl, Contains}
use Rattle.scp_driver.specs.Driver.{IsFull}
use Rattle.scp_nominate.specs.Heard.{heard}
use Rattle.scp_nominate.specs.Values.{Has}
use Rattle.scp_nominate.specs.Owed.{MayVote}
use Rattle.scp_nominate.proofs.Suggesting.{votes_of_steps}
use Rattle.scp_nominate.proofs.Passing.{pass_of_steps, owes_nothing}
use Rattle.scp_nominate.specs.Steps.{own_lists}
use Rattle.scp_nominate.proofs.Repeated.{takes_all, finds_all}
use Rattle.scp_nominate.proofs.guide.Guide.pass.Goals as goal

pub returns-clause-passes : goal.returns-clause-passes
returns-clause-passes g c = pass_of_steps (IsFull (g.D.Driver.says.level c.args.self.now.driver) c.args.self.now.slot.0) (heard c.args.board.now) c.args.known.now c.args.lists.now c.vote_first.new.lists c.accept.new.lists _ c.requires.known.sound c.in_ok-vote_first.ensures.voting c.in_ok-accept.ensures.accepts refl c.in_ok-confirm.ensures.confirms

pub returns-clause-owed : goal.returns-clause-owed
returns-clause-owed g c =
    owes_nothing (IsFull (g.D.Driver.says.level c.args.self.now.driver) c.args.self.now.slot.0) (λ node. Contains c.args.self.now.leaders.items node) c.args.self.now.proposal (heard c.args.board.now) c.args.known.now c.args.lists.now c.vote_first.new.lists c.accept.new.lists (record c.accept.new.lists { candidates = c.confirm.new.candidates })
    c.requires.known.complete c.in_ok-vote_first.ensures.voted c.in_ok-vote_first.ensures.voting.candidates c.in_ok-accept.ensures.accepts c.in_ok-accept.ensures.taken refl c.in_ok-confirm.ensures.confirms.more c.in_ok-confirm.ensures.done

pub returns-clause-votes : goal.returns-clause-votes
returns-clause-votes g c =
    votes_of_steps
    (MayVote (IsFull (g.D.Driver.says.level c.args.self.now.driver) c.args.self.now.slot.0) (g.D.Driver.says.extracted c.args.self.now.driver c.args.self.now.slot.0) (λ node. Contains c.args.self.now.leaders.items node) c.args.self.now.proposal (heard c.args.board.now))
    (λ v. Has c.args.known.now v)
    (heard c.args.board.now)
    c.args.lists.now
    c.vote_first.new.lists
    c.accept.new.lists
    c.in_ok-vote_first.ensures.only
    c.in_ok-accept.ensures.accepts

pub returns-clause-exact : goal.returns-clause-exact
returns-clause-exact g c = record {
  voted = own_lists c.vote_first.new.lists;
  votes = c.in_ok-vote_first.ensures.exact;
  taken = own_lists c.accept.new.lists;
  takes = takes_all (IsFull (g.D.Driver.says.level c.args.self.now.driver) c.args.self.now.slot.0) (heard c.args.board.now) c.args.known.now c.vote_first.new.lists c.accept.new.lists c.requires.known c.in_ok-accept.ensures.exact;
  finds = finds_all (heard c.args.board.now) c.accept.new.lists c.confirm.new.candidates c.in_ok-confirm.ensures.confirms c.in_ok-confirm.ensures.done;
}
