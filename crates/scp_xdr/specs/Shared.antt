-- The kinds of the types that all crates share.
use Rattle.std.proofs.Common.{inl, inr}
use Rattle.scp_types.specs.declared.ballot.Ballot.{Ballot}
use Rattle.scp_types.specs.declared.names.NodeId.{NodeId}
use Rattle.scp_xdr.specs.Kind.{Kind, uint32, fixed, opaque, both, union, no_arm, arm, Values}

-- a value: at most 4,096 bytes (this project's profile)
abbrev pub value_kind : Kind
value_kind = opaque 4096

-- a hash: 32 bytes
abbrev pub hash_kind : Kind
hash_kind = fixed 32

-- a node's id: the discriminant PUBLIC_KEY_TYPE_ED25519, which is 0, and 32 bytes
abbrev pub node_kind : Kind
node_kind = union (arm 0 (fixed 32) no_arm)

-- a node as a union's one arm: its 32 bytes
abbrev pub node_value : NodeId → Values node_kind
node_value n = inl n.0

-- back from the values of the kind
abbrev pub node_of : Values node_kind → NodeId
node_of (inl v) = record { 0 = v }
node_of (inr v) = elim v [ ]

-- a ballot: a counter and a value
abbrev pub ballot_kind : Kind
ballot_kind = both uint32 value_kind

-- the value that encodes a ballot: its counter and its value
abbrev pub ballot_value : Ballot → Values ballot_kind
ballot_value b = (b.counter, b.value)
