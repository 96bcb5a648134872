use Rattle.std.proofs.Common.{◌≡◌, refl}
use Rattle.scp_epoch.proofs.Beginning.{begins_so, takes_up_behind}
use Rattle.scp_epoch.proofs.laws.what_begins_behind_and_stands_like_takes_up.Goals as goal

pub returns : goal.returns
returns g c =
    let says = g.A.Driver.says in
    let said = g.A.Application.begins in
    let after' = g.A.Application.after in
    record { behind = begins_so says said after' c.what_holds_of_a_past_holds_with_one_step_more.ensures.from; takes_up = takes_up_behind says said after' c.each_node_holds_its_ledger.ensures.from }
