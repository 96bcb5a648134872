use Rattle.std.proofs.Common.{◌∙◌, ℕ, Option, ap, string_bytes, subst}
use Rattle.std.specs.Prelude.{OnOk}
use Rattle.scp_stand_slot.specs.Adding.{Adds}
use Rattle.scp_stand_node.specs.Links.{script_of}
use Rattle.scp_stand_node.specs.Slots.{IsSlotText, slot_above, IsTextOf}
use Rattle.scp_stand_node.proofs.slots.write_slot_above.Goals as goal

pub returns-clause-added : goal.returns-clause-added
returns-clause-added c =
    let seen = c.args.seen in
    subst (λ (slot : Option ℕ). OnOk c.write_slot_if.result (Adds (string_bytes c.args.out.now) (string_bytes c.write_slot_if.new.out) (IsTextOf (IsSlotText seen.names.now c.args.members.now (script_of seen.lines) seen.node.now) slot)))
    (c.slot_at.ensures ∙ ap (λ (lowest : ℕ). slot_above lowest c.args.place) c.requires.lowest)
    c.write_slot_if.ensures.added
