-- The XDR of an entry of a history archive: what is kept of one ledger (Stellar-ledger.x, SCPHistoryEntry; RFC 4506).
use Rattle.std.specs.Prelude.{map}
use Rattle.std.proofs.Common.{inl}
use Rattle.scp_quorum.specs.scp_xdr.specs.Kind.{Kind, uint32, array, both, union, no_arm, arm, Values}
use Rattle.scp_quorum.specs.QuorumKind.{set_kind, set_value}
use Rattle.scp_envelope.specs.Kinds.{envelope_kind, envelope_value}
use Rattle.scp_archive.specs.declared.entry.TheConstants.{SET_LIMIT, MESSAGE_LIMIT}
use Rattle.scp_archive.specs.declared.entry.Entry.{Entry}

-- the fields of an entry of version 0: the quorum sets, the ledger's number, the messages
abbrev pub parts_kind : Kind
parts_kind = both (array SET_LIMIT set_kind) (both uint32 (array MESSAGE_LIMIT envelope_kind))

-- an entry as a value of that kind
abbrev pub parts_value : Entry → Values parts_kind
parts_value e = (map set_value e.sets.items, (e.ledger, map envelope_value e.messages.items))

-- an entry: version 0 alone
abbrev pub entry_kind : Kind
entry_kind = union (arm 0 parts_kind no_arm)

-- an entry as a value of its kind, in its one arm
abbrev pub entry_value : Entry → Values entry_kind
entry_value e = inl (parts_value e)
