-- Quorum sets as they are written, with the names of their nodes, entry by entry.
use Rattle.std.proofs.Common.{◌≡◌, ℕ, true, List, [], ◌∷◌, ◌++◌, map, refl, sym, ◌∙◌, ap, append_assoc}
use Rattle.std.specs.Prelude.{codes}
use Rattle.std.specs.Fmt.{decimal}
use Rattle.scp_slot.specs.scp_xdr.specs.Tree.{in_a_row}
use Rattle.scp_slot.specs.scp_quorum.specs.QuorumTree.{QuorumTree}
use Rattle.scp_text.specs.Pieces.{listed}
use Rattle.scp_text.proofs.Rows.{is_nil, listed_both, nil_map}
use Rattle.scp_stand_slot.specs.declared.names.Names.{Names}
use Rattle.scp_stand_slot.specs.Names.{node_name, level_named, row_named, set_named}

texts_of_row : (names : Names) (qs : List QuorumTree) → row_named names (in_a_row qs) ≡ map (set_named names) qs
unfolding row_named set_named
texts_of_row names [] = refl
texts_of_row names (q ∷ qs) = ap (λ l. set_named names q ∷ l) (texts_of_row names qs)

-- the parts of a set's text, as they are added
pub set_added : (names : Names) (set : QuorumTree) (qs : List QuorumTree) (old all : List ℕ) → in_a_row qs ≡ set.inner
    → all ≡ (((old ++ decimal set.head.threshold) ++ codes "of(") ++ listed 44 true (map (node_name names) set.head.validators)) ++ listed 44 (is_nil set.head.validators) (map (set_named names) qs)
    → all ++ codes ")" ≡ old ++ set_named names set
unfolding set_named level_named
set_added names set qs old all row e =
    let vs = map (node_name names) set.head.validators in
    let texts : row_named names set.inner ≡ map (set_named names) qs = ap (row_named names) (sym row) ∙ texts_of_row names qs in
    let entries : listed 44 true (vs ++ row_named names set.inner) ≡ listed 44 true vs ++ listed 44 (is_nil set.head.validators) (map (set_named names) qs) = ap (λ l. listed 44 true (vs ++ l)) texts ∙ listed_both 44 true vs (map (set_named names) qs) ∙ ap (λ b. listed 44 true vs ++ listed 44 b (map (set_named names) qs)) (nil_map (node_name names) set.head.validators) in
    rw (e, entries) (simp append_assoc)
