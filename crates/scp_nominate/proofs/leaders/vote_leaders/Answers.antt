use Rattle.std.proofs.Common.{◌<◌, length, arith}
use Rattle.std.proofs.lemmas.List.{get_or_default}
use Rattle.scp_driver.specs.Driver.{IsFull}
use Rattle.scp_nominate.specs.Heard.{heard}
use Rattle.scp_nominate.proofs.Leading.{leading, each_node}
use Rattle.scp_nominate.specs.Owed.{Suggests}
use Rattle.scp_nominate.specs.inside.Values.{items}
use Rattle.scp_nominate.specs.Voting.{VotesAfter}
use Rattle.scp_nominate.proofs.Turns.{goes_more, goes_all}
use Rattle.scp_nominate.proofs.Suggesting.{one_more}
use Rattle.scp_nominate.proofs.leaders.vote_leaders.Goals as goal

pub loop-leader-preserved : goal.loop-leader-preserved
loop-leader-preserved g c =
    let lt : c.loop-leader.leader-index < length c.args.leaders.now = omega arith in
    let k = leading (IsFull (g.D.Driver.says.level c.args.driver.now) c.args.slot.0) (heard c.args.board.now) c.args.leaders.now c.loop-leader.leader-index _ lt (get_or_default c.args.leaders.now c.loop-leader.leader-index _ _ lt) c.args.votes.now c.loop-leader.votes c.vote_other.new.votes c.loop-leader.invariant.more c.in_ok-vote_other.ensures.more c.loop-leader.invariant.heard c.in_ok-vote_other.ensures.tried in
    record {
      more = k.more;
      only = one_more c.args.leaders.now c.loop-leader.leader-index _ lt (get_or_default c.args.leaders.now c.loop-leader.leader-index _ _ lt) (λ node v. Suggests (IsFull (g.D.Driver.says.level c.args.driver.now) c.args.slot.0) (g.D.Driver.says.extracted c.args.driver.now c.args.slot.0) (heard c.args.board.now) node v) c.args.votes.now c.loop-leader.votes c.vote_other.new.votes c.loop-leader.invariant.only c.in_ok-vote_other.ensures.only;
      exact = goes_more (λ node s t. VotesAfter (IsFull (g.D.Driver.says.level c.args.driver.now) c.args.slot.0) (g.D.Driver.says.extracted c.args.driver.now c.args.slot.0) (heard c.args.board.now) node s t) c.args.leaders.now c.loop-leader.leader-index _ lt (get_or_default c.args.leaders.now c.loop-leader.leader-index _ _ lt) (items c.args.votes.now) (items c.loop-leader.votes) (items c.vote_other.new.votes) c.loop-leader.invariant.exact c.in_ok-vote_other.ensures.exact;
      heard = k.heard;
    }

pub returns-clause-tried : goal.returns-clause-tried
returns-clause-tried g c = each_node (IsFull (g.D.Driver.says.level c.args.driver.now) c.args.slot.0) (heard c.args.board.now) c.loop-leader.votes c.args.leaders.now c.loop-leader.leader-index (omega arith) c.loop-leader.invariant.heard

pub returns-clause-exact : goal.returns-clause-exact
returns-clause-exact g c = goes_all (λ node s t. VotesAfter (IsFull (g.D.Driver.says.level c.args.driver.now) c.args.slot.0) (g.D.Driver.says.extracted c.args.driver.now c.args.slot.0) (heard c.args.board.now) node s t) c.args.leaders.now c.loop-leader.leader-index (omega arith) (items c.args.votes.now) (items c.loop-leader.votes) c.loop-leader.invariant.exact
