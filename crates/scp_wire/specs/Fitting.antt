-- Which messages fit a link, and which surely do (this project's profile).
use Rattle.std.specs.Prelude.{ℕ, ◌≤◌, List, length}
use Rattle.scp_quorum.specs.scp_types.specs.declared.limits.TheConstants.{VALUE_LIMIT}
use Rattle.scp_quorum.specs.scp_types.specs.declared.names.Hash.{Hash}
use Rattle.scp_quorum.specs.scp_types.specs.declared.names.Slot.{Slot}
use Rattle.scp_quorum.specs.scp_xdr.specs.Kind.{Fits}
use Rattle.scp_quorum.specs.QuorumTree.{QuorumTree}
use Rattle.scp_quorum.specs.Sane.{IsSane}
use Rattle.scp_envelope.specs.Kinds.{envelope_kind, envelope_value}
use Rattle.scp_envelope.specs.Short.{HasShortLists}
use Rattle.scp_wire.specs.Boxed.{Boxed}
use Rattle.scp_wire.specs.declared.message.Message.{Message}
use Rattle.scp_wire.specs.declared.message.Message.TheVariants.{Envelope, GetSet, Set, NoSet, GetRecord, Record}
use Rattle.scp_wire.specs.Message.{message_value, SpellsMessage, BreaksALimit}

-- the message breaks no limit of a link message
abbrev pub IsFitting : Message → Type 0
IsFitting message = ¬ (BreaksALimit message)

-- a message with only a hash or a slot fits
abbrev pub NamesFit : Type 0
NamesFit = (hash : Hash) (slot : Slot) → IsFitting (GetSet hash) × IsFitting (NoSet hash) × IsFitting (GetRecord slot)

-- a sane quorum set fits
abbrev pub SaneSetsFit : Type 0
SaneSetsFit = (set : QuorumTree) → IsSane set → IsFitting (Set set)

-- a record of at most 4,096 bytes fits
abbrev pub ShortRecordsFit : Type 0
ShortRecordsFit = (slot : Slot) (value : List ℕ) → length value ≤ VALUE_LIMIT → IsFitting (Record slot value)

-- an envelope with short lists fits if it keeps the limits of its kind: values of at most 4,096 bytes, and a signature of at
-- most 64
abbrev pub ShortEnvelopesFit : Type 0
ShortEnvelopesFit = (e : Boxed) → Fits envelope_kind (envelope_value e.value) → HasShortLists e.value.statement.pledges → IsFitting (Envelope e)

-- a message that bytes encode fits
abbrev pub WhatIsSpeltFits : Type 0
WhatIsSpeltFits = (bytes : List ℕ) (message : Message) → SpellsMessage bytes (message_value message) → IsFitting message
