-- Which messages are numbered on their connection.
-- No public clause reaches these: nothing here need be believed.
use Rattle.std.specs.Prelude.{◌≡◌, true}
use Rattle.std.proofs.Math.Bool.{Bool-set}
use Rattle.scp_wire.specs.declared.message.Message.{Message}
use Rattle.scp_wire.specs.Carried.{is_carried}

abbrev pub IsCarried : Message → Type 0
IsCarried message = is_carried message ≡ true

-- that a message is carried has at most one proof
pub IsCarried-prop : (m : Message) → IsProp (IsCarried m)
IsCarried-prop m = hlevel (Bool-set)
