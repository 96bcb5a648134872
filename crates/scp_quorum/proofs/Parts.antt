-- Laws of satisfying, blocking and quorums.
use Rattle.std.proofs.Common.{◌≡◌, ◌≤◌, ◌+◌, ◌↔◌, ℕ, Bool, true, false, cond, List, [], ◌∷◌, length, count_by, Option, Some, None, IsSomeAnd, refl, sym, subst, ap, arith, ◌∙◌}
use Rattle.std.proofs.lemmas.List.Sums.{sum_by-cons}
use Rattle.std.proofs.lemmas.Bool.Decides.{nat_tests}
use Rattle.scp_xdr.specs.scp_types.specs.declared.names.NodeId.{NodeId}
use Rattle.scp_xdr.specs.Tree.{Trees, no_trees, tree_then, row_len}
use Rattle.scp_quorum.specs.QuorumTree.{Level, QuorumTree}
use Rattle.scp_quorum.specs.Satisfies.{satisfied_count, Satisfies, AreDisjoint, Blocks}
use Rattle.scp_quorum.specs.Sane.{AreInRange, IsInRange, IsSane}
use Rattle.scp_quorum.specs.Quorum.{IsQuorum, IsWithin, IsGreatestQuorum, HasNoQuorum, SatisfyThemselves}
use Rattle.scp_quorum.specs.Places.{only}
use Rattle.scp_quorum.specs.Laws.{BlockingIsMonotone, QuorumsOfAPart, NoneBlocksNone}

abbrev every : NodeId → Bool
every v = true

all_count : (vs : List NodeId) → length vs ≤ count_by every vs
all_count [] = omega arith
all_count (v ∷ vs) = rw (sum_by-cons (λ x. cond (every x) 1 0) v vs) (omega (arith, all_count vs))

all_satisfied : (qs : Trees Level) → AreInRange qs → row_len qs ≤ satisfied_count every qs
all_satisfied no_trees h = omega arith
all_satisfied (tree_then level inner others) h =
    let here = all_count level.validators in
    let below = all_satisfied inner h.0.2 in
    let behind = all_satisfied others h.1 in
    let most = h.0.1 in
    grind (arith, nat_tests, here, below, behind, most)

pub none_blocks : NoneBlocksNone
none_blocks q sane blocks = blocks every (λ v h. refl) (omega (arith, sane.in_range.1, all_count q.head.validators, all_satisfied q.inner sane.in_range.2))

unless : (a b : Bool) → (a ≡ true → b ≡ true) → b ≡ false → a ≡ false
unless true b h e = let f : false ≡ true = sym e ∙ h refl in cc
unless false b h e = refl

pub more_block : BlockingIsMonotone
more_block us ws within q blocks others apart h = blocks others (λ v has. unless (us v) (ws v) (within v) (apart v has)) h

-- what a node of the part has there
kept_there : (P : QuorumTree → Type 0) (t : Bool) (o : Option QuorumTree) → IsSomeAnd (cond t o None) P → (t ≡ true) × IsSomeAnd o P
kept_there P true o h = (refl, h)
kept_there P false o h = absurd h

there_kept : (P : QuorumTree → Type 0) (t : Bool) (o : Option QuorumTree) → t ≡ true → IsSomeAnd o P → IsSomeAnd (cond t o None) P
there_kept P true o e h = h
there_kept P false o e h = let f : false ≡ true = e in cc

pub part_quorum : (sets : NodeId → Option QuorumTree) (part : NodeId → Bool) (at : NodeId) (us : NodeId → Bool) → IsQuorum (only part sets) at us → IsQuorum sets at us × IsWithin us part
part_quorum sets part at us q = (
  record { has = q.has; satisfied = λ v has. (kept_there (Satisfies us) (part v) (sets v) (q.satisfied v has)).1 },
  λ v has. (kept_there (Satisfies us) (part v) (sets v) (q.satisfied v has)).0,
)

pub quorum_part : (sets : NodeId → Option QuorumTree) (part : NodeId → Bool) (at : NodeId) (us : NodeId → Bool) → IsQuorum sets at us → IsWithin us part → IsQuorum (only part sets) at us
quorum_part sets part at us q within = record { has = q.has; satisfied = λ v has. there_kept (Satisfies us) (part v) (sets v) (within v has) (q.satisfied v has) }

pub quorums_part : QuorumsOfAPart
quorums_part sets part at us = (part_quorum sets part at us, λ h. quorum_part sets part at us h.0 h.1)
