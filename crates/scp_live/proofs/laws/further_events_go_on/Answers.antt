use Rattle.scp_live.proofs.Lives.{further_events}
use Rattle.scp_live.proofs.laws.further_events_go_on.Goals as goal

pub returns : goal.returns
returns c =
    further_events
    (record {
      keep = c.what_holds_of_a_past_holds_with_one_step_more.ensures.keeps;
      same = c.what_two_runs_reply_is_the_same.ensures.same;
    })
    c.what_is_sent_once_more_never_goes_back.ensures.made
