-- What goes out fits a link (this project's profile).
use Rattle.scp_pending.specs.scp_wire.specs.Fitting.{IsFitting}
use Rattle.scp_pending.specs.scp_wire.specs.declared.message.Message.TheVariants.{Envelope}
use Rattle.scp_ledger.specs.declared.took.Outgoing.{Outgoing}
use Rattle.scp_ledger.specs.declared.took.Outgoing.TheVariants.{ToAll, To}

-- the message that goes out breaks no limit of a link message
abbrev pub FitsOut : Outgoing → Type 0
FitsOut (ToAll envelope) = IsFitting (Envelope (record { value = envelope }))
FitsOut (To l message) = IsFitting message
