-- Why an event isn't answered, by why its node failed.
-- No public clause reaches these definitions: nothing here need be believed.
use Rattle.std.specs.Prelude.{Bool, true, false, Option, Some, if◌then◌else◌}
use Rattle.scp_core.specs.scp_types.specs.declared.fault.Fault.{Fault}
use Rattle.scp_core.specs.scp_types.specs.declared.fault.Fault.TheVariants.{NoMemory, JournalFull}

-- its journal was full
abbrev pub is_full_fault : Option Fault → Bool
is_full_fault (Some JournalFull) = true
is_full_fault other = false

-- a full journal, if that is why; otherwise no memory
abbrev pub cause_of : Option Fault → Fault
cause_of fault = if is_full_fault fault then JournalFull else NoMemory
