use Rattle.std.specs.Prelude.{[]}
use Rattle.scp_core.proofs.StageLaws.{Laws}
use Rattle.scp_core.proofs.Keeping.{theorem_gives_ledger}
use Rattle.scp_core.proofs.laws.each_node_holds_its_ledger.Goals as goal

pub returns : goal.returns
returns g c =
    let law : Laws g.D.Driver.says = record {
      read = record {
        grow = c.what_is_read_grows_with_the_items.ensures.more;
        one = c.what_is_read_grows_with_the_items.ensures.one;
        in_order = c.what_is_read_keeps_the_shape.ensures;
        more = c.a_beginning_keeps_the_shape.ensures.more;
      };
      ran = c.what_ran_keeps_the_ledger.ensures;
      stays = c.who_it_is_stays.ensures.config;
      links = c.nothing_is_of_a_stranger.ensures.links;
      replies = c.what_is_replied_was_asked_for.ensures.replies;
      empty = c.what_is_sent_was_handed_out.ensures.empty;
      puts = c.what_is_sent_was_handed_out.ensures.puts;
      gives = c.what_is_sent_was_handed_out.ensures.gives;
      journals = c.what_holds_of_a_ledger_holds_with_one_thing_more.ensures.journals;
      applies = c.what_holds_of_an_applier_holds_with_one_thing_more.ensures.passes;
    } in
    record {
      ledger = theorem_gives_ledger g.D.Driver.says 1 [] law;
      from = λ first base. theorem_gives_ledger g.D.Driver.says first base law;
    }
