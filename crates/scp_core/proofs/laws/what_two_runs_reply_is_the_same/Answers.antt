use Rattle.std.specs.Prelude.{[]}
use Rattle.scp_core.proofs.same.Nodes.{Laws}
use Rattle.scp_core.proofs.same.Law.{same_replies}
use Rattle.scp_core.proofs.laws.what_two_runs_reply_is_the_same.Goals as goal

pub returns : goal.returns
returns g c =
    let law : Laws g.D.Driver.says = record {
      slots = record {
        coming = c.an_input_is_a_function.ensures.coming;
        hearing = c.an_input_is_a_function.ensures.hearing;
        composing = c.the_rules_are_a_function.ensures.composing;
        timing = c.the_rules_are_a_function.ensures.timing;
        input = c.the_rules_are_a_function.ensures.input;
        irreflexive = c.newer_is_an_order.ensures.irreflexive;
      };
      journals = c.what_holds_of_a_ledger_holds_with_one_thing_more.ensures.journals;
      window = c.a_beginning_keeps_the_window.ensures.kept;
      keeps_up = c.what_holds_of_an_applier_holds_with_one_thing_more.ensures.keeps_up;
      applying = c.what_is_applied_is_a_function.ensures;
    } in
    record {
      same = same_replies g.D.Driver.says law 1 [];
      from = λ first base. same_replies g.D.Driver.says law first base;
    }
