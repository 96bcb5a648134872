use Rattle.std.proofs.Common.{◌≡◌, refl, ◌∙◌, string_bytes, rules}
use Rattle.std.proofs.lemmas.Iterator.Consumers.{YieldsList-end}
use Rattle.std.proofs.lemmas.Iterator.Adapters.{YieldsList-from_vec}
use Rattle.scp_slot.specs.Slot.{slot_view, driver_of}
use Rattle.scp_script_slot.proofs.Answering.{turn, answered}
use Rattle.scp_script_slot.proofs.answers.answers.Goals as goal

pub loop-input-preserved : goal.loop-input-preserved
loop-input-preserved g c =
    let inv = c.loop-input.invariant in record {
      sound = c.in_ok-answer.ensures.sound;
      driver = c.in_ok-answer.ensures.driver ∙ inv.driver;
      answers = turn g.D.Driver.says.level g.D.Driver.says.combined _ _ _ _ _ _ _ _ _ inv.driver inv.answers c.in_ok-answer.ensures.answer;
    }

pub returns : goal.returns
returns g c =
    let end = YieldsList-end (YieldsList-from_vec {s = c.into_iter-input-iterator.result} c.args.inputs.items (search rules) (search rules))
    c.loop-input.yielded c.loop-input.input-iterator c.loop-input.yielded_by c.next.result c.next.new.self c.in-None.is c.next.ensures.steps in
    answered g.D.Driver.says.level g.D.Driver.says.combined c.args.driver (driver_of c.in_ok-machine.machine) c.args.setup c.loop-input.yielded c.args.inputs.items (slot_view c.in_ok-machine.machine) (slot_view c.loop-input.machine) (string_bytes c.loop-input.out)
    c.in_ok-machine.ensures.driver end.0 c.in_ok-machine.ensures.begins c.loop-input.invariant.answers
