-- Quorum sets that come with messages.
use Rattle.std.specs.Prelude.{◌≡◌, Option, None, IsSomeAnd}
use Rattle.scp_quorum.specs.QuorumTree.{QuorumTree}
use Rattle.scp_quorum.specs.QuorumKind.{set_hash}
use Rattle.scp_quorum.specs.Sane.{IsSane}
use Rattle.scp_envelope.specs.Kinds.{set_hash_of}
use Rattle.scp_wire.specs.declared.message.Message.{Message}
use Rattle.scp_wire.specs.declared.message.Message.TheVariants.{Envelope, GetSet, Set, NoSet, GetRecord, Record, Records}

-- with an envelope comes a sane set with the hash that it names; with any other message comes none
abbrev pub IsSetOf : Message → Option QuorumTree → Type 0
IsSetOf (Envelope envelope) set = IsSomeAnd set (λ q. IsSane q × ((set_hash_of envelope.value.statement.pledges).0 ≡ set_hash q))
IsSetOf (GetSet hash) set = set ≡ None
IsSetOf (Set inside) set = set ≡ None
IsSetOf (NoSet hash) set = set ≡ None
IsSetOf (GetRecord slot) set = set ≡ None
IsSetOf (Record slot value) set = set ≡ None
IsSetOf (Records first values) set = set ≡ None
