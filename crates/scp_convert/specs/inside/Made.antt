-- What was made of a line, before it is written.
-- No public clause reaches these definitions: nothing here need be believed.
use Rattle.std.specs.Prelude.{◌≡◌, ℕ, List, string_bytes}
use Rattle.scp_script_text.specs.scp_types.specs.declared.fault.Fault.{Fault}
use Rattle.scp_script_text.specs.scp_types.specs.declared.fault.Fault.TheVariants as faults
use Rattle.scp_prompt.specs.declared.asked.Kind.{Kind}
use Rattle.scp_convert.specs.declared.refusal.Refusal.{Refusal}
use Rattle.scp_convert.specs.declared.refusal.Refusal.TheVariants.{TooLong, Malformed}
use Rattle.scp_convert.specs.declared.line.Outcome.{Outcome}
use Rattle.scp_convert.specs.declared.line.Outcome.TheVariants.{Text, Refused}
use Rattle.scp_convert.specs.Kinds.{IsFaulty}

-- a text was made of it, or it is refused
abbrev pub IsMade : (List ℕ → Type 0) → (Refusal → Type 0) → Outcome → Type 0
IsMade Is IsNot (Text text) = Is (string_bytes text)
IsMade Is IsNot (Refused refusal) = IsNot refusal

-- the refusal that reports a fault of bytes
abbrev pub IsRefusalOf : Fault → Refusal → Type 0
IsRefusalOf faults.TooLong refusal = refusal ≡ TooLong
IsRefusalOf (faults.Malformed place) refusal = refusal ≡ Malformed place
IsRefusalOf fault refusal = ⊥

-- the bytes are refused by their first fault
abbrev pub IsNotShown : Kind → List ℕ → Refusal → Type 0
IsNotShown kind bytes TooLong = IsFaulty kind bytes faults.TooLong
IsNotShown kind bytes (Malformed place) = IsFaulty kind bytes (faults.Malformed place)
IsNotShown kind bytes refusal = ⊥
