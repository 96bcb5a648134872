-- Statements and envelopes as values of their kinds (Stellar-SCP.x; the limits of values and lists are this project's
-- profile).
use Rattle.std.specs.Prelude.{option_map}
use Rattle.std.proofs.Common.{inl, inr}
use Rattle.scp_envelope.specs.declared.codec.TheConstants.{LIST_LIMIT, SIGNATURE_LIMIT}
use Rattle.scp_xdr.specs.scp_types.specs.declared.names.Hash.{Hash}
use Rattle.scp_xdr.specs.Kind.{Kind, uint32, uint64, opaque, optional, array, both, union, no_arm, arm, Values}
use Rattle.scp_xdr.specs.Shared.{value_kind, hash_kind, node_kind, ballot_kind, ballot_value}
use Rattle.scp_envelope.specs.declared.statement.Prepare.{Prepare}
use Rattle.scp_envelope.specs.declared.statement.Confirm.{Confirm}
use Rattle.scp_envelope.specs.declared.statement.Externalize.{Externalize}
use Rattle.scp_envelope.specs.declared.statement.Nominate.{Nominate}
use Rattle.scp_envelope.specs.declared.statement.Statement.{Statement}
use Rattle.scp_envelope.specs.declared.statement.Envelope.{Envelope}
use Rattle.scp_envelope.specs.declared.statement.Pledges.{Pledges}
use Rattle.scp_envelope.specs.declared.statement.Pledges.TheVariants.{Prepare as Preparing, Confirm as Confirming, Externalize as Externalizing, Nominate as Nominating}

-- the fields of a PREPARE: quorumSetHash, ballot, prepared, preparedPrime, nC, nH
abbrev pub prepare_kind : Kind
prepare_kind = both hash_kind (both ballot_kind (both (optional ballot_kind) (both (optional ballot_kind) (both uint32 uint32))))

-- a PREPARE as a value of its kind
abbrev pub prepare_value : Prepare → Values prepare_kind
prepare_value p = (p.set_hash.0, (ballot_value p.ballot, (option_map ballot_value p.prepared, (option_map ballot_value p.prepared_prime, (p.n_commit, p.n_high)))))

-- the fields of a CONFIRM: ballot, nPrepared, nCommit, nH, quorumSetHash
abbrev pub confirm_kind : Kind
confirm_kind = both ballot_kind (both uint32 (both uint32 (both uint32 hash_kind)))

-- a CONFIRM as a value of its kind
abbrev pub confirm_value : Confirm → Values confirm_kind
confirm_value p = (ballot_value p.ballot, (p.n_prepared, (p.n_commit, (p.n_high, p.set_hash.0))))

-- the fields of an EXTERNALIZE: commit, nH, commitQuorumSetHash
abbrev pub externalize_kind : Kind
externalize_kind = both ballot_kind (both uint32 hash_kind)

-- an EXTERNALIZE as a value of its kind
abbrev pub externalize_value : Externalize → Values externalize_kind
externalize_value p = (ballot_value p.commit, (p.n_high, p.set_hash.0))

-- at most 64 values: an array (RFC 4506, section 4.13; the limit is this project's profile)
abbrev pub list_kind : Kind
list_kind = array LIST_LIMIT value_kind

-- the fields of a NOMINATE: quorumSetHash, votes, accepted
abbrev pub nominate_kind : Kind
nominate_kind = both hash_kind (both list_kind list_kind)

-- a NOMINATE as a value of its kind
abbrev pub nominate_value : Nominate → Values nominate_kind
nominate_value p = (p.set_hash.0, (p.votes, p.accepted))

-- the discriminants of pledges: 0 PREPARE, 1 CONFIRM, 2 EXTERNALIZE, 3 NOMINATE
abbrev pub pledges_kind : Kind
pledges_kind = union (arm 0 prepare_kind (arm 1 confirm_kind (arm 2 externalize_kind (arm 3 nominate_kind no_arm))))

-- pledges as a value of their kind, in the arm of that kind
abbrev pub pledges_value : Pledges → Values pledges_kind
pledges_value (Preparing p) = inl (prepare_value p)
pledges_value (Confirming p) = inr (inl (confirm_value p))
pledges_value (Externalizing p) = inr (inr (inl (externalize_value p)))
pledges_value (Nominating p) = inr (inr (inr (inl (nominate_value p))))

-- the fields of a statement: nodeID, slotIndex, pledges
abbrev pub statement_kind : Kind
statement_kind = both node_kind (both uint64 pledges_kind)

-- a statement as a value of its kind: its node, its slot and its pledges
abbrev pub statement_value : Statement → Values statement_kind
statement_value s = (inl s.node.0, (s.slot.0, pledges_value s.pledges))

-- a signature: at most 64 bytes
abbrev pub signature_kind : Kind
signature_kind = opaque SIGNATURE_LIMIT

-- the fields of an envelope: statement, signature
abbrev pub envelope_kind : Kind
envelope_kind = both statement_kind signature_kind

-- an envelope as a value of its kind: its statement and its signature
abbrev pub envelope_value : Envelope → Values envelope_kind
envelope_value e = (statement_value e.statement, e.signature)

-- the hash of the quorum set that a statement names: quorumSetHash, or commitQuorumSetHash of an EXTERNALIZE
abbrev pub set_hash_of : Pledges → Hash
set_hash_of (Preparing p) = p.set_hash
set_hash_of (Confirming p) = p.set_hash
set_hash_of (Externalizing p) = p.set_hash
set_hash_of (Nominating p) = p.set_hash
