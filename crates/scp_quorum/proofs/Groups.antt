-- Groups of nodes that share a quorum set: what a removal keeps, and when nothing is left to remove.
use Rattle.std.proofs.Common.{◌≡◌, ℕ, ◌+◌, ◌<◌, ◌≤◌, Bool, true, false, cond, List, [], ◌∷◌, take, length, get_or, Option, Some, None, IsSome, IsSomeAnd, arith, sym, ◌∙◌, ap, subst, inl, inr}
use Rattle.std.specs.List.{All, Contains}
use Rattle.std.specs.Map.{lookup}
use Rattle.std.specs.BTreeMap.{BTreeMap, is_at}
use Rattle.std.specs.BTreeSet.{BTreeSet, btree_set_len}
use Rattle.std.specs.Global.{Global}
use Rattle.std.specs.declared.sync.Arc.{Arc}
use Rattle.std.proofs.lemmas.List.Elements.{All-contains, All-more, All-nil}
use Rattle.scp_xdr.specs.scp_types.specs.declared.names.NodeId.{NodeId}
use Rattle.scp_quorum.specs.declared.quorum.groups.Group.{Group}
use Rattle.scp_quorum.specs.QuorumTree.{QuorumTree}
use Rattle.scp_quorum.specs.Satisfies.{Satisfies}
use Rattle.scp_quorum.specs.declared.sane_set.SaneSet.{SaneSet}
use Rattle.scp_quorum.specs.NodeSet.{node_cmp, is_in}
use Rattle.scp_quorum.specs.Quorum.{set_of, SatisfyThemselves, IsWithin}
use Rattle.scp_quorum.specs.inside.Quorum.{AllHaveSets, KeepsQuorums}
use Rattle.scp_quorum.specs.inside.Groups.{HasOneSet, IsGrouped, IsSettled}
use Rattle.scp_quorum.proofs.Blocking.{Satisfies-within}
use Rattle.scp_quorum.proofs.Pass.{Entries, decided, same_at, some_is_there}

-- a group whose set is not satisfied is in nothing that satisfies itself
pub removal_keeps : (g : Group) (old new : NodeId → Bool) → (Satisfies old g.set.now → ⊥) → ((v : NodeId) → old v ≡ true → (Contains g.members.items v → ⊥) → new v ≡ true)
    → (sets : NodeId → Option QuorumTree) → HasOneSet sets g → KeepsQuorums sets old new
removal_keeps g old new fails others sets one us closed within v has =
    let P : Option QuorumTree → Type 0 = λ o. IsSomeAnd o (Satisfies us) in
    others v (within v has) (λ member. fails (Satisfies-within us old within g.set.now (subst P (one v member) (closed v has))))

pub absent_is_settled : (g : Group) (nodes : NodeId → Bool) → ((v : NodeId) → Contains g.members.items v → nodes v ≡ false) → IsSettled nodes g
absent_is_settled g nodes absent v member has = absurd (apart (sym has ∙ absent v member))
  where
    apart : true ≡ false → ⊥
    apart e = cc

-- where each group is settled, the nodes satisfy themselves
pub all_settled : (sets : NodeId → Option QuorumTree) (groups : List Group) (nodes : NodeId → Bool) → AllHaveSets sets nodes → All (HasOneSet sets) groups → ((v : NodeId) → IsSome (sets v) → IsGrouped groups v) → All (IsSettled nodes) groups → SatisfyThemselves sets nodes
all_settled sets groups nodes have one all settled v has =
    let found = all v (have v has) in
    let g = found.1 in
    let here : Contains groups g = (found.0, found.2, found.3) in
    let set : sets v ≡ Some g.set.now = All-contains (HasOneSet sets) groups g one here v found.4 in
    let P : Option QuorumTree → Type 0 = λ o. IsSomeAnd o (Satisfies nodes) in
    subst P (sym set) (All-contains (IsSettled nodes) groups g settled here v found.4 has)

-- what holds once the seen groups are tested, and the members of some are removed
pub record IsGroupPass (groups : List Group) (old now : BTreeSet NodeId) (removed : Bool) (seen : List Group) : Type 0 where
  pub within : IsWithin (is_in now) (is_in old)
  pub kept : (sets : NodeId → Option QuorumTree) → All (HasOneSet sets) groups → KeepsQuorums sets (is_in old) (is_in now)
  pub no_more : btree_set_len now ≤ btree_set_len old
  pub fewer : removed ≡ true → btree_set_len now < btree_set_len old
  pub settled : removed ≡ false → All (IsSettled (is_in now)) seen

pub group_pass_none : (groups : List Group) (old : BTreeSet NodeId) → IsGroupPass groups old old false []
group_pass_none groups old = record {
  within = λ v has. has;
  kept = λ sets one us closed within. within;
  no_more = omega arith;
  fewer = λ e. absurd (let f : false ≡ true = e in cc);
  settled = λ e. All-nil (IsSettled (is_in old));
}

module _ (groups : List Group) (old now new : BTreeSet NodeId) (removed : Bool) (i : ℕ) (g : Group) (here : i < length groups) (is : g ≡ get_or groups i g) (so_far : IsGroupPass groups old now removed (take i groups)) where
  pub group_removed : IsWithin (is_in new) (is_in now) → ((sets : NodeId → Option QuorumTree) → HasOneSet sets g → KeepsQuorums sets (is_in now) (is_in new)) → btree_set_len new < btree_set_len now → IsGroupPass groups old new true (take (i + 1) groups)
  group_removed within kept fewer = record {
    within = λ v has. so_far.within v (within v has);
    kept = λ sets one us closed inside.
        let P : Group → Type 0 = HasOneSet sets in
        kept sets (subst P (sym is) (one i g here)) us closed (so_far.kept sets one us closed inside);
    no_more = omega (arith, so_far.no_more);
    fewer = λ _. omega (arith, so_far.no_more);
    settled = λ e. absurd (let f : true ≡ false = e in cc);
  }

  pub group_stays : new ≡ now → IsSettled (is_in new) g → IsGroupPass groups old new removed (take (i + 1) groups)
  group_stays same settled =
      let Q : BTreeSet NodeId → Type 0 = λ s. IsGroupPass groups old s removed (take (i + 1) groups) in
      let here_settled : IsSettled (is_in now) g = let R : BTreeSet NodeId → Type 0 = λ s. IsSettled (is_in s) g in subst R same settled in
      let P : Group → Type 0 = IsSettled (is_in now) in
      subst Q (sym same) (record {
        within = so_far.within;
        kept = so_far.kept;
        no_more = so_far.no_more;
        fewer = so_far.fewer;
        settled = λ e. All-more P groups i g here (so_far.settled e) (subst P is here_settled);
      })

pub one_of_all : (sets : NodeId → Option QuorumTree) (groups : List Group) (i : ℕ) (g : Group) → i < length groups → g ≡ get_or groups i g → All (HasOneSet sets) groups → HasOneSet sets g
one_of_all sets groups i g here is one =
    let P : Group → Type 0 = HasOneSet sets in
    subst P (sym is) (one i g here)

-- what holds of the groups with these entries left to group
pub record IsGrouping (m : BTreeMap NodeId (Arc SaneSet Global)) (groups : List Group) (rest : Entries) : Type 0 where
  pub one_set : All (HasOneSet (set_of m)) groups
  pub all : (v : NodeId) → IsSome (set_of m v) → lookup (is_at (node_cmp v)) rest ≡ None → IsGrouped groups v

pub grouping_none : (m : BTreeMap NodeId (Arc SaneSet Global)) → IsGrouping m [] m.entries
grouping_none m = record {
  one_set = All-nil (HasOneSet (set_of m));
  all = λ v some absent. absurd (some_is_there (λ (shared : Arc SaneSet Global). shared.value) _ some absent);
}

pub grouping_more : (m : BTreeMap NodeId (Arc SaneSet Global)) (old new : List Group) (e : NodeId × Arc SaneSet Global) (rest : Entries) → All (HasOneSet (set_of m)) new → IsGrouped new e.0 → ((v : NodeId) → IsGrouped old v → IsGrouped new v) → IsGrouping m old (e ∷ rest) → IsGrouping m new rest
grouping_more m old new e rest one joined others so_far = record {
  one_set = one;
  all = λ v some absent.
      elim (decided (is_at (node_cmp v) e.0)) [
        | inl same ↦ (let P : NodeId → Type 0 = λ n. IsGrouped new n in subst P (sym (same_at v e.0 same)) joined)
        | inr apart ↦ others v (so_far.all v some (ap (λ b. cond b (Some e.1) (lookup (is_at (node_cmp v)) rest)) apart ∙ absent))
      ];
}
