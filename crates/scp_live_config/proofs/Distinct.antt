-- Which nodes are distinct.
use Rattle.std.proofs.Common.{◌≡◌, Bool, true, false, not, ◌||◌, List, [], ◌∷◌, refl, sym, ◌∙◌}
use Rattle.std.specs.List.{AllByRecursion, IsDistinct}
use Rattle.std.specs.Ordering.{eq_by_cmp}
use Rattle.std.proofs.lemmas.Bool.{and_parts, false≢true}
use Rattle.std.proofs.lemmas.Map.Text.{is_eq-slice_cmp}
use Rattle.scp_quorum.specs.scp_types.specs.declared.names.NodeId.{NodeId}
use Rattle.scp_quorum.specs.NodeSet.{node_cmp}
use Rattle.scp_live_config.specs.inside.Faults.{is_among, are_distinct}

or_none : (a b : Bool) → (a || b) ≡ false → (a ≡ false) × (b ≡ false)
or_none true b h = absurd (false≢true (sym h))
or_none false b h = (refl, h)

not_false : (a : Bool) → not a ≡ true → a ≡ false
not_false true h = absurd (false≢true h)
not_false false h = refl

apart_from : (node : NodeId) (others : List NodeId) → is_among node others ≡ false → AllByRecursion (λ other. eq_by_cmp node_cmp node other ≡ false) others
apart_from node [] h = tt
apart_from node (other ∷ others) h =
    let parts = or_none _ _ h in
    (is_eq-slice_cmp node.0 other.0 ∙ parts.0, apart_from node others parts.1)

not_among : (node : NodeId) (others : List NodeId) → AllByRecursion (λ other. eq_by_cmp node_cmp node other ≡ false) others → is_among node others ≡ false
not_among node [] h = refl
not_among node (other ∷ others) h = rw (sym (is_eq-slice_cmp node.0 other.0) ∙ h.0, not_among node others h.1)

pub are_apart : (nodes : List NodeId) → are_distinct nodes ≡ true → IsDistinct (eq_by_cmp node_cmp) nodes
unfolding IsDistinct
are_apart [] h = tt
are_apart (node ∷ nodes) h =
    let parts = and_parts (not (is_among node nodes)) (are_distinct nodes) h in
    (apart_from node nodes (not_false (is_among node nodes) parts.0), are_apart nodes parts.1)

pub are_distinct_from : (nodes : List NodeId) → IsDistinct (eq_by_cmp node_cmp) nodes → are_distinct nodes ≡ true
unfolding IsDistinct
are_distinct_from [] h = refl
are_distinct_from (node ∷ nodes) h = rw (not_among node nodes h.0, are_distinct_from nodes h.1)

pub no_apart : (nodes : List NodeId) → are_distinct nodes ≡ false → IsDistinct (eq_by_cmp node_cmp) nodes → ⊥
no_apart nodes h apart = false≢true (sym h ∙ are_distinct_from nodes apart)
