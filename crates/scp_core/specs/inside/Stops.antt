-- Why a stage gives nothing, as a node's reply; nothing here need be believed.
use Rattle.std.specs.Prelude.{Result, Ok, Err}
use Rattle.scp_core.specs.declared.event.Reply.{Reply}
use Rattle.scp_core.specs.declared.event.Reply.TheVariants as reply
use Rattle.scp_core.specs.declared.stop.Stop.{Stop}
use Rattle.scp_core.specs.declared.stop.Stop.TheVariants.{NoLink, Idle, Blocked, NoMemory}

abbrev pub reply_of : Stop → Reply
reply_of NoLink = reply.NoLink
reply_of Idle = reply.Idle
reply_of Blocked = reply.Blocked
reply_of NoMemory = reply.NoMemory

abbrev pub told : {X : Type 0} → Result X Stop → Result X Reply
told (Ok x) = Ok x
told (Err why) = Err (reply_of why)
