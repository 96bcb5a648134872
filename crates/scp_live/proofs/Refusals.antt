-- What is told of a reply.
use Rattle.std.proofs.Common.{◌≡◌, ◌≢◌, Option, refl}
use Rattle.scp_again.specs.scp_ledger.specs.declared.took.CommandFate.{CommandFate}
use Rattle.scp_again.specs.scp_core.specs.declared.event.Reply.{Reply}
use Rattle.scp_again.specs.scp_core.specs.declared.event.Reply.TheVariants as reply
use Rattle.scp_live_lines.specs.Replies.{refused_line}
use Rattle.scp_live.specs.Live.{outcome}

pub refusal_of : (r : Reply) (fate : Option CommandFate) → r ≢ reply.Accepted → refused_line r ≡ outcome r fate
refusal_of reply.Accepted fate other = absurd (other refl)
refusal_of reply.Moved fate other = refl
refusal_of (reply.Sent bytes) fate other = refl
refusal_of reply.Idle fate other = refl
refusal_of reply.Blocked fate other = refl
refusal_of reply.Full fate other = refl
refusal_of reply.NotOpen fate other = refl
refusal_of reply.AlreadyOpen fate other = refl
refusal_of reply.LivesSpent fate other = refl
refusal_of reply.NoLink fate other = refl
refusal_of reply.Failed fate other = refl
refusal_of reply.JournalFull fate other = refl
refusal_of reply.NoMemory fate other = refl
