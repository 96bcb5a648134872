use Rattle.scp_epoch.proofs.Lives.{Laws}
use Rattle.scp_epoch.proofs.LivesAscend.{lives_ascend}
use Rattle.scp_epoch.proofs.laws.what_a_life_sends_never_goes_back.Goals as goal

pub returns : goal.returns
returns g c =
    let says = g.A.Driver.says in
    let said = g.A.Application.begins in
    let after' = g.A.Application.after in
    let law : Laws says said after' = record { keep = c.what_holds_of_a_past_holds_with_one_step_more.ensures.from; ledger = c.each_node_holds_its_ledger.ensures.from; headline = c.each_node_holds_its_headline.ensures.from } in
    lives_ascend says said after' law c.what_is_given_was_handed_out.ensures.empty c.what_is_given_was_handed_out.ensures.puts c.what_is_given_was_handed_out.ensures.gives
