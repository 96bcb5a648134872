-- Going over the board, the nodes with a property are picked.
use Rattle.std.proofs.Common.{◌≡◌, Bool, true, false, cond, List, [], ◌∷◌, Option, Some, None, IsSomeAnd, refl, sym, ◌∙◌, ap, subst, ◌⊎◌, inl, inr}
use Rattle.std.specs.Map.{lookup}
use Rattle.std.specs.Option.{option_map}
use Rattle.std.specs.BTreeMap as node_map
use Rattle.std.specs.BTreeMap.{is_at}
use Rattle.scp_quorum.specs.scp_types.specs.declared.names.NodeId.{NodeId}
use Rattle.scp_quorum.specs.NodeSet.{node_cmp}
use Rattle.scp_envelope.specs.declared.statement.Pledges.{Pledges}
use Rattle.scp_vote.specs.declared.statements.Side.{Side}
use Rattle.scp_vote.specs.declared.statements.Entry.{Entry}
use Rattle.scp_vote.specs.Board.{Has}
use Rattle.scp_vote.specs.inside.Statements.{PicksNodes}
use Rattle.scp_vote.specs.inside.Side.{side}
use Rattle.scp_vote.proofs.Chain.{same_at, at_itself}

abbrev pub Entries : Type 0
Entries = List (NodeId × Entry)

-- the nodes picked so far, with these entries left to visit
pub record IsPicking (H : NodeId → Type 0) (has : NodeId → Bool) (rest : Entries) : Type 0 where
  pub sound : (v : NodeId) → has v ≡ true → H v
  pub complete : (v : NodeId) → lookup (is_at (node_cmp v)) rest ≡ None → H v → has v ≡ true

decided : (b : Bool) → (b ≡ true) ⊎ (b ≡ false)
decided true = inl refl
decided false = inr refl

not_both : (t : Bool) → t ≡ true → t ≡ false → ⊥
not_both t e f = let k : true ≡ false = sym e ∙ f in cc

pub picking_start : (H : NodeId → Type 0) (has : NodeId → Bool) (es : Entries) → ((v : NodeId) → has v ≡ false) → ((v : NodeId) → lookup (is_at (node_cmp v)) es ≡ None → H v → ⊥) → IsPicking H has es
picking_start H has es empty absent = record {
  sound = λ v e. absurd (not_both (has v) e (empty v));
  complete = λ v e h. absurd (absent v e h);
}

pub picking_end : (H : NodeId → Type 0) (has : NodeId → Bool) → IsPicking H has [] → PicksNodes H has
picking_end H has p v = (λ t. p.sound v t, λ h. p.complete v refl h)

module _ (H : NodeId → Type 0) (has : NodeId → Bool) (e : NodeId × Entry) (rest : Entries) where
  passes_over : (v : NodeId) → is_at (node_cmp v) e.0 ≡ false → lookup (is_at (node_cmp v)) rest ≡ None → lookup (is_at (node_cmp v)) (e ∷ rest) ≡ None
  passes_over v apart absent = ap (λ t. cond t (Some e.1) (lookup (is_at (node_cmp v)) rest)) apart ∙ absent

  pub picking_by : (H e.0 → ⊥) → IsPicking H has (e ∷ rest) → IsPicking H has rest
  picking_by fails p = record {
    sound = p.sound;
    complete = λ v absent h. elim (decided (is_at (node_cmp v) e.0)) [
      | inl here ↦ absurd (fails (subst H (same_at v e.0 here) h))
      | inr apart ↦ p.complete v (passes_over v apart absent) h
    ];
  }

  pub picking_takes : (new : NodeId → Bool) → H e.0 → ((v : NodeId) → new v ≡ cond (is_at (node_cmp e.0) v) true (has v)) → IsPicking H has (e ∷ rest) → IsPicking H new rest
  picking_takes new holds puts p = record {
    sound = λ v h. elim (decided (is_at (node_cmp e.0) v)) [
      | inl here ↦ subst H (same_at e.0 v here) holds
      | inr apart ↦ p.sound v (sym (ap (λ t. cond t true (has v)) apart) ∙ sym (puts v) ∙ h)
    ];
    complete = λ v absent h. elim (decided (is_at (node_cmp e.0) v)) [
      | inl here ↦ puts v ∙ ap (λ t. cond t true (has v)) here
      | inr apart ↦ puts v ∙ ap (λ t. cond t true (has v)) apart ∙ elim (decided (is_at (node_cmp v) e.0)) [
        | inl turned ↦ absurd (not_both (is_at (node_cmp e.0) v) (let P : NodeId → Type 0 = λ w. is_at (node_cmp e.0) w ≡ true in subst P (sym (same_at v e.0 turned)) (at_itself e.0)) apart)
        | inr turned ↦ p.complete v (passes_over v turned absent) h
      ]
    ];
  }

pub at_statement : (b : Side) (e : NodeId × Entry) → node_map.get node_cmp b.table.now.entries e.0 ≡ Some e.1 → (side b).statement e.0 ≡ Some e.1.envelope.statement.pledges
at_statement b e h = ap (option_map (λ (x : Entry). x.envelope.statement.pledges)) h

pub no_statement : (b : Side) (P : Pledges → Type 0) (v : NodeId) → node_map.get node_cmp b.table.now.entries v ≡ None → Has (side b) P v → ⊥
no_statement b P v absent h = let Q : Option Pledges → Type 0 = λ o. IsSomeAnd o P in subst Q (ap (option_map (λ (e : Entry). e.envelope.statement.pledges)) absent) h

pub has_at : (b : Side) (P : Pledges → Type 0) (e : NodeId × Entry) → node_map.get node_cmp b.table.now.entries e.0 ≡ Some e.1 → P e.1.envelope.statement.pledges → Has (side b) P e.0
has_at b P e item h = let Q : Option Pledges → Type 0 = λ o. IsSomeAnd o P in subst Q (sym (at_statement b e item)) h

pub at_has : (b : Side) (P : Pledges → Type 0) (e : NodeId × Entry) → node_map.get node_cmp b.table.now.entries e.0 ≡ Some e.1 → Has (side b) P e.0 → P e.1.envelope.statement.pledges
at_has b P e item h = let Q : Option Pledges → Type 0 = λ o. IsSomeAnd o P in subst Q (at_statement b e item) h
