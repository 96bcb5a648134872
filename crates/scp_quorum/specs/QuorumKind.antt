-- The XDR of a quorum set (RFC 4506; the limits are this project's profile).
use Rattle.std.specs.Prelude.{◌≡◌, ℕ, List, map}
use Rattle.scp_xdr.specs.Tree.{tree_map}
use Rattle.scp_xdr.specs.Kind.{Kind, uint32, array, both, tree, Values, spelling}
use Rattle.scp_xdr.specs.Shared.{node_kind, node_value, node_of}
use Rattle.sha2.specs.Sha256.{sha256}
use Rattle.scp_quorum.specs.QuorumTree.{Level, QuorumTree}

-- a threshold and at most 1,000 validators
abbrev pub level_kind : Kind
level_kind = both uint32 (array 1000 node_kind)

-- at most 1,000 inner sets of each set, and at most 4 levels of them
abbrev pub set_kind : Kind
set_kind = tree 4 1000 level_kind

-- one level of it as a value of its kind
abbrev pub level_value : Level → Values level_kind
level_value l = (l.threshold, map node_value l.validators)

-- a quorum set as a value of its kind
abbrev pub set_value : QuorumTree → Values set_kind
set_value q = tree_map level_value q

-- back from a value of the kind to its level
abbrev pub level_of : Values level_kind → Level
level_of v = record { threshold = v.0; validators = map node_of v.1 }

-- back from a value of the kind to its quorum set
abbrev pub quorum_set_of : Values set_kind → QuorumTree
quorum_set_of v = tree_map level_of v

-- each quorum set is the one that its value is read back as
abbrev pub SetIsItsValue : Type 0
SetIsItsValue = (q : QuorumTree) → quorum_set_of (set_value q) ≡ q

-- each value of the kind is that of the quorum set that it is read back as
abbrev pub ValueIsASets : Type 0
ValueIsASets = (v : Values set_kind) → set_value (quorum_set_of v) ≡ v

-- the one encoding of a quorum set
abbrev pub set_spelling : QuorumTree → List ℕ
set_spelling q = spelling set_kind (set_value q)

-- the name of a quorum set: the SHA-256 (FIPS 180-4) of its encoding
abbrev pub set_hash : QuorumTree → List ℕ
set_hash q = sha256 (set_spelling q)
