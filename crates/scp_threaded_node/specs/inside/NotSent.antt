-- Why a link's sending end sent nothing.
-- No public clause reaches this definition: nothing here need be believed.
use Rattle.std.specs.Prelude.{◌≡◌, Option, None, Some}
use Rattle.scp_gather.specs.scp_types.specs.declared.fault.Fault.{Fault}
use Rattle.scp_gather.specs.scp_wire.specs.declared.link.LinkItem.{LinkItem}
use Rattle.scp_gather.specs.scp_ends.specs.declared.tail.NotSent.{NotSent}
use Rattle.scp_gather.specs.scp_ends.specs.declared.tail.NotSent.TheVariants as not_sent

-- the sending end returns the reason why it can't; if it can, its receiving end is gone, and it hands the item back
abbrev pub IsNotSentFor : Option Fault → NotSent → Type 0
IsNotSentFor None e = (x : LinkItem) × (e ≡ not_sent.Gone x)
IsNotSentFor (Some why) e = e ≡ not_sent.Refused why
