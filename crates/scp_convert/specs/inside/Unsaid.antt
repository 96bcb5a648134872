-- Texts that have no bytes.
-- No public clause reaches these definitions: nothing here need be believed.
use Rattle.scp_script_text.specs.scp_device.specs.declared.bad.WordFault.{WordFault}
use Rattle.scp_script_text.specs.scp_device.specs.declared.bad.WordFault.TheVariants as faults
use Rattle.scp_convert.specs.declared.refusal.Refusal.{Refusal}
use Rattle.scp_convert.specs.declared.refusal.Refusal.TheVariants.{Word}
use Rattle.scp_convert.specs.declared.encoding.Unsaid.{Unsaid}
use Rattle.scp_convert.specs.declared.encoding.Unsaid.TheVariants.{Refused, NoMemory}

-- the text has no bytes since a word is refused, or it is out of memory
abbrev pub unsaid_by : WordFault → Unsaid
unsaid_by (faults.Bad bad) = Refused (Word bad)
unsaid_by faults.NoMemory = NoMemory

-- the text is refused so, or it is out of memory
abbrev pub IsUnsaidBy : (Refusal → Type 0) → Unsaid → Type 0
IsUnsaidBy IsRefusal (Refused refusal) = IsRefusal refusal
IsUnsaidBy IsRefusal NoMemory = Unit {0}
