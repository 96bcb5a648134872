-- The nodes that have a set, as the pruning begins.
use Rattle.std.specs.Prelude.{IsTrue, ◌↔◌}
use Rattle.std.proofs.Common.{◌≡◌, Bool, true, Option, Some, None, IsSome, IsSomeAnd, is_some, refl, sym, ◌∙◌}
use Rattle.std.specs.Global.{Global}
use Rattle.std.specs.Option.{option_map}
use Rattle.std.specs.BTreeMap.{BTreeMap, keys, is_at}
use Rattle.std.specs.BTreeSet.{BTreeSet, IsFromIterResult}
use Rattle.std.specs.declared.sync.Arc.{Arc}
use Rattle.std.proofs.lemmas.Map.Made.{is_some-lookup}
use Rattle.scp_xdr.specs.scp_types.specs.declared.names.NodeId.{NodeId}
use Rattle.scp_quorum.specs.declared.sane_set.SaneSet.{SaneSet}
use Rattle.scp_quorum.specs.NodeSet.{node_cmp, is_in}
use Rattle.scp_quorum.specs.QuorumTree.{QuorumTree}
use Rattle.scp_quorum.specs.Satisfies.{Satisfies}
use Rattle.scp_quorum.specs.Quorum.{set_of, SatisfyThemselves, IsWithin, IsGreatestQuorum, IsInSomeQuorum}
use Rattle.scp_quorum.specs.inside.Quorum.{AllHaveSets}

is_some-map : {A B : Type 0} (f : A → B) (o : Option A) → is_some (option_map f o) ≡ is_some o
is_some-map f None = refl
is_some-map f (Some x) = refl

there : {A : Type 0} (o : Option A) → is_some o ≡ true → IsSome o
there None e = cc
there (Some x) e = refl

found : {A : Type 0} (P : A → Type 0) (o : Option A) → IsSomeAnd o P → is_some o ≡ true
found P None h = absurd h
found P (Some x) h = refl

module _ (m : BTreeMap NodeId (Arc SaneSet Global)) (nodes : BTreeSet NodeId) (made : IsFromIterResult node_cmp (keys m) nodes) where
  is_in-known : (v : NodeId) → is_in nodes v ≡ is_some (set_of m v)
  is_in-known v =
      made.0 v ∙ sym (is_some-lookup (is_at (node_cmp v)) m.entries) ∙ sym (is_some-map (λ (shared : Arc SaneSet Global). shared.value) _)

  pub all_have_sets : AllHaveSets (set_of m) (is_in nodes)
  all_have_sets v has = there (set_of m v) (sym (is_in-known v) ∙ has)

  pub all_within : (others : NodeId → Bool) → SatisfyThemselves (set_of m) others → IsWithin others (is_in nodes)
  all_within others closed v has = is_in-known v ∙ found (Satisfies others) (set_of m v) (closed v has)

-- the greatest quorum has exactly the nodes that some quorum has
pub union_of : (sets : NodeId → Option QuorumTree) (at : NodeId) (nodes : NodeId → Bool) → IsGreatestQuorum sets at nodes → (v : NodeId) → IsTrue (nodes v) ↔ IsInSomeQuorum sets at v
union_of sets at nodes greatest v = (λ t. (nodes, greatest.quorum, t), λ some. greatest.others some.0 some.1 v some.2)
