-- What a slot's machine gives keeps the limits of a link (this project's profile).
use Rattle.std.specs.Option.{ForSome}
use Rattle.scp_nominate.specs.scp_envelope.specs.Short.{IsShortValue, IsShort}
use Rattle.scp_slot.specs.declared.output.SlotOutput.{SlotOutput}

-- Each statement that is emitted is short; so is the own EXTERNALIZE of a decision, whose value has at most 4,096 bytes.
pub record KeepsLimits (out : SlotOutput) : Type 0 where
  pub nomination : ForSome out.emitted.nomination IsShort
  pub ballot : ForSome out.emitted.ballot IsShort
  pub own : ForSome out.decided (λ d. IsShort d.own)
  pub value : ForSome out.decided (λ d. IsShortValue d.value)
