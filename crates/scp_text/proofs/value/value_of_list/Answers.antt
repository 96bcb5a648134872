use Rattle.std.proofs.Common.{◌≡◌, sym, ap, ◌∙◌, Some, Err, refl}
use Rattle.scp_kv.specs.scp_types.specs.declared.fault.Fault.TheVariants.{TooLong}
use Rattle.scp_text.proofs.ValueTexts.{list_spelt, list_over}
use Rattle.scp_text.proofs.value.value_of_list.Goals as goal

pub returns-in-Ok-clause-found : goal.returns-in-Ok-clause-found
returns-in-Ok-clause-found c = ap Some c.new.ensures ∙ sym (list_spelt c.args.ops.items c.in-Ok.bytes.items c.in-Ok.ensures.spells c.in-Ok.ensures.within)

pub returns-in-Err-TooLong-clause-found : goal.returns-in-Err-TooLong-clause-found
returns-in-Err-TooLong-clause-found c = sym (list_over c.args.ops.items (c.encode_within.ensures.too_long.0 (rw (c.in-Err-TooLong.is, c.in-Err-TooLong.field-0-is) refl)))
