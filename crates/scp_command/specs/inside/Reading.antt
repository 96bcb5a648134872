-- Why an input isn't read.
-- No public clause reaches this definition: nothing here need be believed.
use Rattle.std.specs.Prelude.{ℕ}
use Rattle.scp_script_short.specs.scp_types.specs.declared.fault.Fault.{Fault}
use Rattle.scp_script_short.specs.scp_types.specs.declared.fault.Fault.TheVariants as faults
use Rattle.scp_convert.specs.scp_prompt.specs.declared.failure.Failure.{Failure}
use Rattle.scp_convert.specs.scp_prompt.specs.declared.failure.Failure.TheVariants.{TooLong, NoMemory, Unread}

-- the failure of an input that couldn't be read: the reader failed, it is over this limit, or memory ran out
abbrev pub unread_of : ℕ → Fault → Failure
unread_of limit faults.Device = Unread
unread_of limit faults.TooLong = TooLong limit
unread_of limit fault = NoMemory
