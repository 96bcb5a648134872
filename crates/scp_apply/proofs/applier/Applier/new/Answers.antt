use Rattle.std.proofs.Common.{[], ◌∙◌, sym}
use Rattle.scp_apply.proofs.Applying.{made_none}
use Rattle.scp_apply.proofs.applier.Applier.new.Goals as goal

pub invariant_of-result : goal.invariant_of-result
invariant_of-result g c = record {
  in_order = c.new-slots.ensures.sound.is_applied.in_order;
  sound = λ runs. c.new-slots.ensures.sound;
  made = λ runs. made_none g.A.Application.begins g.A.Application.after c.new-slots.result [] c.new_state-state.result (c.new-slots.ensures.base ∙ c.new-base.ensures.items) c.new-slots.ensures.applied (c.new_state-state.ensures ∙ sym g.met.A.Application.begins_first);
}
