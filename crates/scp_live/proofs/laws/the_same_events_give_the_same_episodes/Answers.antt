use Rattle.scp_live.proofs.Lives.{same_episodes}
use Rattle.scp_live.proofs.laws.the_same_events_give_the_same_episodes.Goals as goal

pub returns : goal.returns
returns c = same_episodes (record {
  keep = c.what_holds_of_a_past_holds_with_one_step_more.ensures.keeps;
  same = c.what_two_runs_reply_is_the_same.ensures.same;
})
