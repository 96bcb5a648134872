use Rattle.std.specs.Prelude.{[]}
use Rattle.scp_core.proofs.StageLaws.{StepLaws}
use Rattle.scp_core.proofs.Holding.{steps_keep}
use Rattle.scp_core.proofs.laws.what_holds_of_a_past_holds_with_one_step_more.Goals as goal

pub returns : goal.returns
returns g c =
    let law : StepLaws g.D.Driver.says = record {
      read = record {
        grow = c.what_is_read_grows_with_the_items.ensures.more;
        one = c.what_is_read_grows_with_the_items.ensures.one;
        in_order = c.what_is_read_keeps_the_shape.ensures;
        more = c.a_beginning_keeps_the_shape.ensures.more;
      };
      stays = c.who_it_is_stays.ensures.config;
      journals = c.what_holds_of_a_ledger_holds_with_one_thing_more.ensures.journals;
      grows = c.what_holds_of_a_ledger_holds_with_one_thing_more.ensures.grows;
      applies = c.what_holds_of_an_applier_holds_with_one_thing_more.ensures.passes;
    } in
    record {
      keeps = steps_keep g.D.Driver.says 1 [] law;
      from = λ first base. steps_keep g.D.Driver.says first base law;
    }
