-- What is reported of bytes that are no message.
-- No public clause reaches this: nothing here need be believed.
use Rattle.std.specs.Prelude.{◌≡◌}
use Rattle.scp_text.specs.scp_types.specs.declared.fault.Fault.{Fault}
use Rattle.scp_text.specs.scp_types.specs.declared.fault.Fault.TheVariants as faults
use Rattle.scp_script_text.specs.declared.decoding.DecodeError.{DecodeError}
use Rattle.scp_script_text.specs.declared.decoding.DecodeError.TheVariants.{NoMemory, TooLong, Malformed}

-- the error that reports a fault of bytes
abbrev pub IsUnread : Fault → DecodeError → Type 0
IsUnread faults.TooLong error = error ≡ TooLong
IsUnread (faults.Malformed place) error = error ≡ Malformed place
IsUnread fault error = error ≡ NoMemory
