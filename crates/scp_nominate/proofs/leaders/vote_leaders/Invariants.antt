use Rattle.std.proofs.Common.{◌<◌, ◌⊎◌, ℕ, List, get_or, Contains}
use Rattle.scp_vote.specs.scp_types.specs.declared.names.NodeId.{NodeId}
use Rattle.scp_driver.specs.Driver.{IsFull}
use Rattle.scp_nominate.specs.Heard.{heard}
use Rattle.scp_nominate.specs.Values.{Has}
use Rattle.scp_nominate.specs.inside.Steps.{MoreVotes}
use Rattle.scp_nominate.specs.Owed.{Suggests}
use Rattle.scp_nominate.specs.inside.Values.{items}
use Rattle.scp_nominate.specs.Voting.{VotesAfter}
use Rattle.scp_nominate.proofs.Turns.{GoesOn}
use Rattle.scp_nominate.proofs.Leading.{IsHeard}
use Rattle.scp_nominate.proofs.leaders.vote_leaders.Given as goal

abbrev pub invariant-loop-leader : goal.invariant-loop-leader
invariant-loop-leader g l = record {
  more : MoreVotes l.fn.votes l.votes;
  only : (v : List ℕ) → Has l.votes v → Has l.fn.votes v ⊎ ((node : NodeId) × Contains l.leaders node × Suggests (IsFull (g.D.Driver.says.level l.driver) l.slot.0) (g.D.Driver.says.extracted l.driver l.slot.0) (heard l.board) node v);
  exact : GoesOn (λ node s t. VotesAfter (IsFull (g.D.Driver.says.level l.driver) l.slot.0) (g.D.Driver.says.extracted l.driver l.slot.0) (heard l.board) node s t) l.leaders l.leader-index (items l.fn.votes) (items l.votes);
  heard : (k : ℕ) (d : NodeId) → k < l.leader-index → IsHeard (IsFull (g.D.Driver.says.level l.driver) l.slot.0) (heard l.board) l.votes (get_or l.leaders k d);
}
