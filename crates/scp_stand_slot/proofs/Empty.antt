-- A map of nodes without entries.
use Rattle.std.proofs.Common.{◌≡◌, ◌<◌, ◌≤◌, ℕ, Bool, true, false, List, [], length, get_or, Option, Some, None, IsSome, Contains, refl, sym, ◌∙◌, ap, subst, ◌⊎◌, inl, inr, arith}
use Rattle.std.specs.Option.{option_map}
use Rattle.std.specs.BTreeMap as node_map
use Rattle.std.specs.BTreeMap.{BTreeMap, btree_map_len}
use Rattle.std.proofs.lemmas.Bool.{cases_lt}
use Rattle.std.proofs.lemmas.List.{length-map, get_or_default}
use Rattle.std.proofs.lemmas.Map.Views.{btree_map_contains_key_iff}
use Rattle.scp_slot.specs.scp_types.specs.declared.names.NodeId.{NodeId}
use Rattle.scp_slot.specs.scp_quorum.specs.NodeSet.{node_cmp}
use Rattle.scp_stand_slot.proofs.Same.{node_total, node_exact}

some_or_none : {A : Type 0} (o : Option A) → (IsSome o) ⊎ (o ≡ None)
some_or_none (Some x) = inl refl
some_or_none None = inr refl

not_some : {A : Type 0} (o : Option A) → o ≡ None → IsSome o → ⊥
not_some None e h = absurd cc
not_some (Some x) e h = absurd cc

pub none_mapped : {A B : Type 0} (f : A → B) (o : Option A) → option_map f o ≡ None → o ≡ None
none_mapped f None e = refl
none_mapped f (Some x) e = absurd cc

module _ {X : Type 0} (m : BTreeMap NodeId X) where
  keys_long : length (node_map.keys m) ≡ btree_map_len m
  keys_long = length-map _ _

  pub none_found : btree_map_len m ≡ 0 → (v : NodeId) → node_map.get node_cmp m v ≡ None
  none_found e v = elim (some_or_none (node_map.get node_cmp m v)) [
    | inl some ↦ let has : Contains (node_map.keys m) v = (btree_map_contains_key_iff node_total node_exact m v).0 some in absurd (omega (arith, has.1, keys_long, e))
    | inr none ↦ none
  ]

  pub none_there : ((v : NodeId) → node_map.get node_cmp m v ≡ None) → btree_map_len m ≡ 0
  none_there empty = elim (cases_lt 0 (length (node_map.keys m))) [
    | inl some ↦
        let d : NodeId = record { 0 = [] } in
        let k : NodeId = get_or (node_map.keys m) 0 d in
        let has : Contains (node_map.keys m) k = (0, some, get_or_default (node_map.keys m) 0 k d some) in
        absurd (not_some (node_map.get node_cmp m k) (empty k) ((btree_map_contains_key_iff node_total node_exact m k).1 has))
    | inr none ↦ omega (arith, none, keys_long)
  ]
