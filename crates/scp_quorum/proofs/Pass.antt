-- One pass over the nodes, which removes those that are not satisfied.
use Rattle.std.proofs.Common.{◌≡◌, Bool, true, false, cond, List, [], ◌∷◌, Option, Some, None, IsSome, IsSomeAnd, refl, sym, ◌∙◌, ap, subst, ◌⊎◌, inl, inr}
use Rattle.std.specs.Global.{Global}
use Rattle.std.specs.Ordering.{is_eq}
use Rattle.std.specs.declared.cmp.Ordering.{Ordering}
use Rattle.std.specs.declared.cmp.Ordering.TheVariants.{Less, Equal, Greater}
use Rattle.std.specs.Map.{lookup}
use Rattle.std.specs.Option.{option_map}
use Rattle.std.specs.BTreeMap as node_map
use Rattle.std.specs.BTreeMap.{BTreeMap, is_at}
use Rattle.std.specs.declared.sync.Arc.{Arc}
use Rattle.std.proofs.lemmas.Map.Lookups.{exact_bytes}
use Rattle.scp_xdr.specs.scp_types.specs.declared.names.NodeId.{NodeId}
use Rattle.scp_quorum.specs.declared.sane_set.SaneSet.{SaneSet}
use Rattle.scp_quorum.specs.NodeSet.{node_cmp}
use Rattle.scp_quorum.specs.QuorumTree.{QuorumTree}
use Rattle.scp_quorum.specs.Satisfies.{Satisfies}
use Rattle.scp_quorum.specs.Quorum.{set_of, SatisfyThemselves}
use Rattle.scp_quorum.specs.inside.Quorum.{AllHaveSets, KeepsQuorums}
use Rattle.scp_quorum.proofs.Blocking.{Satisfies-within}

abbrev pub Entries : Type 0
Entries = List (NodeId × Arc SaneSet Global)

-- what holds with these entries left to visit
pub record IsPass (sets : NodeId → Option QuorumTree) (old now : NodeId → Bool) (removed : Bool) (rest : Entries) : Type 0 where
  pub have_sets : AllHaveSets sets now
  pub kept : KeepsQuorums sets old now
  pub settled : removed ≡ false → (v : NodeId) → now v ≡ true → lookup (is_at (node_cmp v)) rest ≡ None → IsSomeAnd (sets v) (Satisfies now)

same_node : (v w : NodeId) → node_cmp v w ≡ Equal → v ≡ w
same_node v w e = ap (λ bytes. let n : NodeId = record { 0 = bytes } in n) (exact_bytes v.0 w.0 e)

is_eq-true : (o : Ordering) → is_eq o ≡ true → o ≡ Equal
is_eq-true Less e = cc
is_eq-true Equal e = refl
is_eq-true Greater e = cc

pub same_at : (v w : NodeId) → is_at (node_cmp v) w ≡ true → v ≡ w
same_at v w e = same_node v w (is_eq-true (node_cmp v w) e)

pub decided : (b : Bool) → (b ≡ true) ⊎ (b ≡ false)
decided true = inl refl
decided false = inr refl

pub some_is_there : {A B : Type 0} (f : A → B) (o : Option A) → IsSome (option_map f o) → o ≡ None → ⊥
some_is_there {B = B} f None h e = let k : IsSome {T = B} None = h in cc
some_is_there f (Some x) h e = cc

-- the set of an entry
pub set_of-entry : (m : BTreeMap NodeId (Arc SaneSet Global)) (e : NodeId × Arc SaneSet Global) → node_map.get node_cmp m e.0 ≡ Some e.1 → set_of m e.0 ≡ Some e.1.value
set_of-entry m e h = ap (option_map (λ (shared : Arc SaneSet Global). shared.value)) h

pub pass_start : (m : BTreeMap NodeId (Arc SaneSet Global)) (now : NodeId → Bool) → AllHaveSets (set_of m) now → IsPass (set_of m) now now false m.entries
pass_start m now have = record {
  have_sets = have;
  kept = λ others h within. within;
  settled = λ e v has absent. absurd (some_is_there (λ (shared : Arc SaneSet Global). shared.value) _ (have v has) absent);
}

module _ (sets : NodeId → Option QuorumTree) (old now : NodeId → Bool) (e : NodeId × Arc SaneSet Global) (rest : Entries) (found : sets e.0 ≡ Some e.1.value) where
  at_this : (nodes : NodeId → Bool) (v : NodeId) → e.0 ≡ v → IsSomeAnd (sets v) (Satisfies nodes) → Satisfies nodes e.1.value
  at_this nodes v same h =
      let P : NodeId → Type 0 = λ n. IsSomeAnd (sets n) (Satisfies nodes) in
      let Q : Option QuorumTree → Type 0 = λ o. IsSomeAnd o (Satisfies nodes) in
      subst Q found (subst P (sym same) h)

  from_this : (nodes : NodeId → Bool) (v : NodeId) → e.0 ≡ v → Satisfies nodes e.1.value → IsSomeAnd (sets v) (Satisfies nodes)
  from_this nodes v same h =
      let P : NodeId → Type 0 = λ n. IsSomeAnd (sets n) (Satisfies nodes) in
      let Q : Option QuorumTree → Type 0 = λ o. IsSomeAnd o (Satisfies nodes) in
      subst P same (subst Q (sym found) h)

  pub pass_by : (removed : Bool) → (now e.0 ≡ true → Satisfies now e.1.value) → IsPass sets old now removed (e ∷ rest) → IsPass sets old now removed rest
  pass_by removed here pass = record {
    have_sets = pass.have_sets;
    kept = pass.kept;
    settled = λ stays v has absent.
        elim (decided (is_at (node_cmp v) e.0)) [
          | inl same ↦ (let eq : e.0 ≡ v = sym (same_at v e.0 same) in from_this now v eq (here (ap now eq ∙ has)))
          | inr apart ↦ pass.settled stays v has (ap (λ b. cond b (Some e.1) (lookup (is_at (node_cmp v)) rest)) apart ∙ absent)
        ];
  }

  pub pass_removes : (new : NodeId → Bool) (removed : Bool) → (Satisfies now e.1.value → ⊥) → ((v : NodeId) → new v ≡ cond (is_at (node_cmp e.0) v) false (now v))
      → IsPass sets old now removed (e ∷ rest) → IsPass sets old new true rest
  pass_removes new removed fails others pass = record {
    have_sets = λ v has. pass.have_sets v (remains (is_at (node_cmp e.0) v) (now v) (sym (others v) ∙ has));
    kept = λ us closed within v has.
        elim (decided (is_at (node_cmp e.0) v)) [
          | inl same ↦ absurd (fails (Satisfies-within us now (pass.kept us closed within) e.1.value (at_this us v (same_at e.0 v same) (closed v has))))
          | inr apart ↦ others v ∙ ap (λ b. cond b false (now v)) apart ∙ pass.kept us closed within v has
        ];
    settled = λ stays v has absent. absurd (let f : true ≡ false = stays in cc);
  }
    where
      remains : (b n : Bool) → cond b false n ≡ true → n ≡ true
      remains true n h = cc
      remains false n h = h

-- one more entry, whose set the nodes satisfy
pub pass_satisfied : (m : BTreeMap NodeId (Arc SaneSet Global)) (nodes : NodeId → Bool) (e : NodeId × Arc SaneSet Global) (rest : Entries) → node_map.get node_cmp m e.0 ≡ Some e.1 → Satisfies nodes e.1.value → IsPass (set_of m) nodes nodes false (e ∷ rest) → IsPass (set_of m) nodes nodes false rest
pass_satisfied m nodes e rest item here pass = pass_by (set_of m) nodes nodes e rest (set_of-entry m e item) false (λ _. here) pass

pub pass_end : (sets : NodeId → Option QuorumTree) (old now : NodeId → Bool) → IsPass sets old now false [] → SatisfyThemselves sets now
pass_end sets old now pass v has = pass.settled refl v has refl
