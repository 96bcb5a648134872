-- Link messages as values of a kind, and the limit for all of their bytes (this project's profile).
use Rattle.std.specs.Prelude.{◌≡◌, ℕ, ◌^◌, ◌<◌, ◌≤◌, ◌⊎◌, List, length, Result, Err, nat_lt, if◌then◌else◌}
use Rattle.std.proofs.Common.{inl, inr}
use Rattle.scp_quorum.specs.scp_types.specs.declared.limits.TheConstants.{VALUE_LIMIT}
use Rattle.scp_quorum.specs.scp_types.specs.declared.fault.Fault.{Fault}
use Rattle.scp_quorum.specs.scp_types.specs.declared.fault.Fault.TheVariants.{TooLong}
use Rattle.scp_quorum.specs.scp_xdr.specs.Kind.{Kind, uint64, numbered, both, union, no_arm, arm, Values, Spells, Fits, spelling}
use Rattle.scp_quorum.specs.scp_xdr.specs.Reading.{reading_whole}
use Rattle.scp_quorum.specs.scp_xdr.specs.Shared.{value_kind, hash_kind}
use Rattle.scp_quorum.specs.QuorumKind.{set_kind, set_value, set_spelling, quorum_set_of}
use Rattle.scp_envelope.specs.Kinds.{envelope_kind, envelope_value}
use Rattle.scp_envelope.specs.Envelopes.{envelope_of}
use Rattle.scp_wire.specs.declared.message.Message.{Message}
use Rattle.scp_wire.specs.declared.message.Message.TheVariants.{Envelope, GetSet, Set, NoSet, GetRecord, Record, Records}

-- the XDR of a link message: a union of seven arms (RFC 4506; this project's profile)
abbrev pub message_kind : Kind
message_kind = union (arm 1 envelope_kind (arm 2 hash_kind (arm 3 set_kind (arm 4 hash_kind (arm 5 uint64 (arm 6 (both uint64 value_kind) (arm 7 (numbered 32 value_kind) no_arm)))))))

-- a message as a value of its kind, in the arm of its sort
abbrev pub message_value : Message → Values message_kind
message_value (Envelope envelope) = inl (envelope_value envelope.value)
message_value (GetSet hash) = inr (inl hash.0)
message_value (Set set) = inr (inr (inl (set_value set)))
message_value (NoSet hash) = inr (inr (inr (inl hash.0)))
message_value (GetRecord slot) = inr (inr (inr (inr (inl slot.0))))
message_value (Record slot value) = inr (inr (inr (inr (inr (inl (slot.0, value))))))
message_value (Records first values) = inr (inr (inr (inr (inr (inr (inl (first.0, values)))))))

-- back from a value of the kind to its message
abbrev pub message_of : Values message_kind → Message
message_of (inl envelope) = Envelope (record { value = envelope_of envelope })
message_of (inr (inl hash)) = GetSet (record { 0 = hash })
message_of (inr (inr (inl set))) = Set (quorum_set_of set)
message_of (inr (inr (inr (inl hash)))) = NoSet (record { 0 = hash })
message_of (inr (inr (inr (inr (inl slot))))) = GetRecord (record { 0 = slot })
message_of (inr (inr (inr (inr (inr (inl v)))))) = Record (record { 0 = v.0 }) v.1
message_of (inr (inr (inr (inr (inr (inr (inl v))))))) = Records (record { 0 = v.0 }) v.1
message_of (inr (inr (inr (inr (inr (inr (inr v))))))) = elim v [ ]

-- the bytes encode the message, and are within the limit
pub record SpellsMessage (bytes : List ℕ) (v : Values message_kind) : Type 0 where
  pub within : length bytes ≤ 65536
  pub spells : Spells message_kind bytes v

-- the message keeps each of its limits, and the limit for all of its bytes
pub record FitsMessage (v : Values message_kind) : Type 0 where
  pub fits : Fits message_kind v
  pub within : length (spelling message_kind v) ≤ 65536

-- the numbers and arrays of a message are in the range of their types
abbrev pub HasRanges : Message → Type 0
HasRanges (Envelope envelope) = Unit {0}
HasRanges (GetSet hash) = length hash.0 ≡ 32
HasRanges (Set set) = Unit {0}
HasRanges (NoSet hash) = length hash.0 ≡ 32
HasRanges (GetRecord slot) = slot.0 < 2 ^ 64
HasRanges (Record slot value) = slot.0 < 2 ^ 64
HasRanges (Records first values) = first.0 < 2 ^ 64

-- the value of a record is over its limit; or the envelope, the quorum set or the batch breaks one of its own, or is longer
-- than a message allows
abbrev pub BreaksALimit : Message → Type 0
BreaksALimit (Envelope envelope) = (¬ (Fits envelope_kind (envelope_value envelope.value))) ⊎ (65532 < length (spelling envelope_kind (envelope_value envelope.value)))
BreaksALimit (GetSet hash) = ⊥
BreaksALimit (Set set) = (¬ (Fits set_kind (set_value set))) ⊎ (65532 < length (set_spelling set))
BreaksALimit (NoSet hash) = ⊥
BreaksALimit (GetRecord slot) = ⊥
BreaksALimit (Record slot value) = VALUE_LIMIT < length value
BreaksALimit (Records first values) = (¬ (Fits (numbered 32 value_kind) (first.0, values))) ⊎ (65532 < length (spelling (numbered 32 value_kind) (first.0, values)))

-- the reading of bytes, whose length is tested before anything is read
abbrev pub message_reading : List ℕ → Result (Values message_kind) Fault
message_reading bytes = if nat_lt 65536 (length bytes) then Err TooLong else reading_whole message_kind bytes
