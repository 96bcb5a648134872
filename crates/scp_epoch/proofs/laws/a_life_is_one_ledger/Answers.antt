use Rattle.scp_epoch.proofs.Lives.{Laws, life_order, life_once, life_shows, life_ledgers, life_headlines}
use Rattle.scp_epoch.proofs.laws.a_life_is_one_ledger.Goals as goal

pub returns : goal.returns
returns g c =
    let says = g.A.Driver.says in
    let said = g.A.Application.begins in
    let after' = g.A.Application.after in
    let law : Laws says said after' = record { keep = c.what_holds_of_a_past_holds_with_one_step_more.ensures.from; ledger = c.each_node_holds_its_ledger.ensures.from; headline = c.each_node_holds_its_headline.ensures.from } in
    record {
      slots = life_order says said after' law;
      once = life_once says said after' law;
      state = life_shows says said after' law;
      ledgers = life_ledgers says said after' law;
      headlines = life_headlines says said after' law;
    }
