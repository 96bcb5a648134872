-- Scripts, line by line, in hex digits or as text (this project's profile).
-- No public clause reaches this: nothing here need be believed.
use Rattle.std.specs.Prelude.{◌≡◌, ℕ, List}
use Rattle.scp_text.specs.scp_device.specs.declared.bad.WordFault.TheVariants.{Bad}
use Rattle.scp_text.specs.scp_device.specs.declared.bad.ReadFault.{ReadFault}
use Rattle.scp_text.specs.scp_device.specs.declared.bad.ReadFault.TheVariants as faults
use Rattle.scp_script_text.specs.declared.script.Kind.{Kind}
use Rattle.scp_script_text.specs.declared.script.Form.{Form}
use Rattle.scp_script_text.specs.Scripts.{IsNoLineIn}

-- why a line isn't written in this form, with the line's place in a script
abbrev pub IsPlaced : Kind → Form → List ℕ → ℕ → ReadFault → Type 0
IsPlaced kind form line place faults.NoMemory = Unit {0}
IsPlaced kind form line place (faults.Bad bad) = IsNoLineIn kind form line (Bad bad.bad) × (bad.line ≡ place)
IsPlaced kind form line place (faults.BadAt at) = ⊥
