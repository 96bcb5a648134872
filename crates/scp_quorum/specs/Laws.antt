-- Laws of satisfying, blocking and quorums.
use Rattle.std.specs.Prelude.{Bool, false, Option, ◌↔◌}
use Rattle.scp_xdr.specs.scp_types.specs.declared.names.NodeId.{NodeId}
use Rattle.scp_quorum.specs.QuorumTree.{QuorumTree}
use Rattle.scp_quorum.specs.Satisfies.{Satisfies, Blocks}
use Rattle.scp_quorum.specs.Sane.{IsSane}
use Rattle.scp_quorum.specs.Quorum.{IsQuorum, IsWithin}
use Rattle.scp_quorum.specs.Places.{only}

-- If nodes satisfy a quorum set, more nodes do too.
abbrev pub SatisfyingIsMonotone : Type 0
SatisfyingIsMonotone = (us ws : NodeId → Bool) → IsWithin us ws → (q : QuorumTree) → Satisfies us q → Satisfies ws q

-- If nodes block a quorum set, more nodes do too.
abbrev pub BlockingIsMonotone : Type 0
BlockingIsMonotone = (us ws : NodeId → Bool) → IsWithin us ws → (q : QuorumTree) → Blocks us q → Blocks ws q

-- If only the sets of some nodes are known, the quorums are those over all sets that lie inside these nodes.
abbrev pub QuorumsOfAPart : Type 0
QuorumsOfAPart = (sets : NodeId → Option QuorumTree) (part : NodeId → Bool) (at : NodeId) (us : NodeId → Bool) → IsQuorum (only part sets) at us ↔ (IsQuorum sets at us × IsWithin us part)

-- The empty set of nodes blocks no sane quorum set.
abbrev pub NoneBlocksNone : Type 0
NoneBlocksNone = (q : QuorumTree) → IsSane q → Blocks (λ v. false) q → ⊥
