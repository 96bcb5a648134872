use Rattle.std.proofs.Common.{◌∙◌, ap}
use Rattle.scp_apply.proofs.Applying.{made_none}
use Rattle.scp_apply.proofs.applier.Applier.begin.Goals as goal

pub invariant_of-result : goal.invariant_of-result
invariant_of-result g c = record {
  in_order = c.new-slots.ensures.sound.is_applied.in_order;
  sound = λ runs. c.new-slots.ensures.sound;
  made = λ runs. made_none g.A.Application.begins g.A.Application.after c.new-slots.result c.args.base.items c.in_ok-state.state c.new-slots.ensures.base c.new-slots.ensures.applied (c.in_ok-state.ensures.begun ∙ ap g.A.Application.begins c.as_slice.ensures.value);
}
