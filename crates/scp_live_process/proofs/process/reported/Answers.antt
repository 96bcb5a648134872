use Rattle.std.proofs.Common.{◌≡◌, true, false, sym, ◌∙◌, refl, inl, inr}
use Rattle.scp_live_process.proofs.process.reported.Goals as goal

pub returns-then-not-was_moved : goal.returns-then-not-was_moved
returns-then-not-was_moved g c = inr (λ is. let no : true ≡ false = sym is ∙ sym c.was_moved.ensures ∙ c.if-not-was_moved.true in absurd cc, refl)

pub returns-then-is_device : goal.returns-then-is_device
returns-then-is_device g c = inl (sym c.was_moved.ensures ∙ c.if-not-was_moved.false, c.is_device.ensures.0 c.if-is_device.true, refl)

pub returns : goal.returns
returns g c = inr (λ is device. let no : true ≡ false = sym (c.is_device.ensures.1 device) ∙ c.if-is_device.false in absurd cc, refl)
