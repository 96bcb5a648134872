-- Nodes that are side by side in each quorum set of a row; lists of which each element is tested.
use Rattle.std.proofs.Common.{◌≡◌, ℕ, ◌+◌, ◌<◌, List, [], ◌∷◌, ◌++◌, take, length, get_or, sym, ◌∙◌, ap, subst}
use Rattle.std.specs.List.{All, Any}
use Rattle.std.proofs.lemmas.List.Elements.{All-more, All-head, All-tail}
use Rattle.scp_quorum.specs.scp_types.specs.declared.names.NodeId.{NodeId}
use Rattle.scp_quorum.specs.scp_xdr.specs.Tree.{in_a_row}
use Rattle.scp_quorum.specs.scp_xdr.specs.Kind.{Kind, Values, Fits, Spells, spelling}
use Rattle.scp_quorum.specs.QuorumTree.{QuorumTree}
use Rattle.scp_quorum.specs.QuorumKind.{set_kind, set_value, quorum_set_of, SetIsItsValue}
use Rattle.scp_quorum_search.specs.inside.Sides.{StandInRow, StandTogether}

pub one_more : {X : Type 0} (P : X → Type 0) (xs : List X) (i : ℕ) (x : X) → i < length xs → x ≡ get_or xs i x → All P (take i xs) → P x → All P (take (i + 1) xs)
one_more P xs i x lt is all here = All-more P xs i x lt all (subst P is here)

pub any_here : {X : Type 0} (P : X → Type 0) (xs : List X) (i : ℕ) (x : X) → i < length xs → x ≡ get_or xs i x → P x → Any P xs
any_here P xs i x lt is h = (i, x, lt, sym is, h)

pub row_together : (a b : NodeId) (sets : List QuorumTree) → All (StandTogether a b) sets → StandInRow a b (in_a_row sets)
row_together a b [] all = tt
row_together a b (q ∷ qs) all =
    let here : StandTogether a b q = All-head (StandTogether a b) q qs all in
    ((here.0, here.1), row_together a b qs (All-tail (StandTogether a b) q qs all))

-- two quorum sets with one encoding are one
pub one_spelling : ((k : Kind) (v w : Values k) (x y : List ℕ) → Fits k v → Fits k w → spelling k v ++ x ≡ spelling k w ++ y → (v ≡ w) × (x ≡ y))
    → SetIsItsValue → (q r : QuorumTree) (bytes others : List ℕ) → Spells set_kind bytes (set_value q) → Spells set_kind others (set_value r) → bytes ≡ others → q ≡ r
one_spelling law back q r bytes others one other same =
    let whole : spelling set_kind (set_value q) ++ [] ≡ spelling set_kind (set_value r) ++ [] = ap (λ (l : List ℕ). l ++ []) (sym one.spelt ∙ same ∙ other.spelt) in
    let values = law set_kind (set_value q) (set_value r) [] [] one.fits other.fits whole in
    sym (back q) ∙ ap quorum_set_of values.0 ∙ back r
