use Rattle.std.proofs.Common.{◌++◌, ◌∙◌, ap, rules}
use Rattle.std.specs.Prelude.{Option, option_to_list}
use Rattle.std.proofs.lemmas.Result.{on_ok_weaker, on_err_weaker}
use Rattle.scp_theorem.specs.scp_ledger.specs.declared.took.Outgoing.{Outgoing}
use Rattle.scp_theorem.specs.scp_ledger.specs.Fitting.{FitsOut}
use Rattle.scp_core.proofs.Staging.{hands_last, any_before, any_last, all_before, all_last}
use Rattle.scp_core.proofs.handing.+hand_out_rest.Goals as goal

pub hand_out_rest-requires : goal.hand_out_rest-requires
hand_out_rest-requires t c =
    let is = c.pop.ensures.items ∙ ap (λ (o : Option Outgoing). c.pop.new.self.items ++ option_to_list o) c.in-Some.is in
    (search rules, all_before FitsOut c.args.outgoing.items c.pop.new.self.items c.in-Some.last is c.requires.fits)

pub hand_out_one-requires : goal.hand_out_one-requires
hand_out_one-requires t c =
    let is = c.pop.ensures.items ∙ ap (λ (o : Option Outgoing). c.pop.new.self.items ++ option_to_list o) c.in-Some.is in
    record { fits = all_last FitsOut c.args.outgoing.items c.pop.new.self.items c.in-Some.last is c.requires.fits }

pub returns-in-Ok : goal.returns-in-Ok
returns-in-Ok t c =
    let is = c.pop.ensures.items ∙ ap (λ (o : Option Outgoing). c.pop.new.self.items ++ option_to_list o) c.in-Some.is in
    record {
      hands = on_ok_weaker c.hand_out_one.result (λ more. hands_last c.args.outboxes.now c.hand_out_rest.new.outboxes c.hand_out_one.new.outboxes c.args.outgoing.items c.pop.new.self.items c.in-Some.last is c.in-Ok.ensures.hands more) c.hand_out_one.ensures.hands;
      to_all = on_err_weaker c.hand_out_one.result (any_last c.args.outgoing.items c.pop.new.self.items c.in-Some.last is) c.hand_out_one.ensures.to_all;
    }

pub returns-in-Err : goal.returns-in-Err
returns-in-Err t c =
    let is = c.pop.ensures.items ∙ ap (λ (o : Option Outgoing). c.pop.new.self.items ++ option_to_list o) c.in-Some.is in
    record { hands = tt; to_all = any_before c.args.outgoing.items c.pop.new.self.items c.in-Some.last is c.in-Err.ensures.to_all }
