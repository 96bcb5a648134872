-- The sides that the values of nodes make.
use Rattle.std.proofs.Common.{◌≡◌, ◌<◌, ◌+◌, ◌∙◌, ℕ, Bool, true, false, List, [], ◌∷◌, ◌++◌, length, map, get_or, take, refl, sym, ap}
use Rattle.std.specs.Prelude.{◌||◌, not, filter, if◌then◌else◌}
use Rattle.std.proofs.lemmas.List.{map-append, take_more}
use Rattle.std.proofs.lemmas.List.Elements.{filter-append}
use Rattle.scp_notices.specs.declared.disagreeing.Choice.{Choice as Seen}
use Rattle.scp_notices.specs.declared.notice.Side.{Side}
use Rattle.scp_notices.specs.Disagreeing.{Choice, same_value, each_once, side_of}
use Rattle.scp_notices.specs.inside.Choices.{choice_seen, values_of, values_seen, has_value, side_behind}

-- the value, unless it is seen
abbrev pub unless : Bool → List ℕ → List (List ℕ)
unless seen value = if seen then [] else value ∷ []

kept : (p : List ℕ → Bool) (value : List ℕ) (same seen : Bool) → p value ≡ not same → filter p (unless seen value) ≡ unless (same || seen) value
kept p value true true e = refl
kept p value false true e = refl
kept p value true false e = rw e refl
kept p value false false e = rw e refl

-- one value more: it comes last, unless it came before
once_more : (value : List ℕ) (values : List (List ℕ)) → each_once (values ++ value ∷ []) ≡ each_once values ++ unless (has_value value values) value
once_more value [] = refl
once_more value (first ∷ values) =
    let p = λ (other : List ℕ). not (same_value other first) in
    ap (λ (l : List (List ℕ)). first ∷ filter p l) (once_more value values)
    ∙ ap (λ (l : List (List ℕ)). first ∷ l) (filter-append p (each_once values) (unless (has_value value values) value))
    ∙ ap (λ (l : List (List ℕ)). (first ∷ filter p (each_once values)) ++ l) (kept p value (same_value value first) (has_value value values) refl)

side_unless : (choices : List Choice) (seen : Bool) (value : List ℕ) → map (side_of choices) (unless seen value) ≡ (if seen then [] else side_of choices value ∷ [])
side_unless choices true value = refl
side_unless choices false value = refl

values_more : (cs : List Seen) (c : Seen) → values_seen (cs ++ c ∷ []) ≡ values_seen cs ++ c.value.now ∷ []
values_more cs c = ap (λ (l : List Choice). values_of l) (map-append choice_seen cs (c ∷ [])) ∙ map-append (λ (choice : Choice). choice.value) (map choice_seen cs) (choice_seen c ∷ [])

-- a side more, of the choice behind the first i
pub sides_more : (choices : List Choice) (cs : List Seen) (i : ℕ) (c : Seen) (old new : List Side) → i < length cs → c ≡ get_or cs i c → old ≡ map (side_of choices) (each_once (values_seen (take i cs))) → new ≡ old ++ side_behind choices (values_seen (take i cs)) c.value.now → new ≡ map (side_of choices) (each_once (values_seen (take (i + 1) cs)))
sides_more choices cs i c old new within is so added =
    let before = values_seen (take i cs) in
    let value = c.value.now in
    let longer : take (i + 1) cs ≡ take i cs ++ c ∷ [] = take_more cs i c within ∙ ap (λ (x : Seen). take i cs ++ x ∷ []) (sym is) in
    added
    ∙ ap (λ (l : List Side). l ++ side_behind choices before value) so
    ∙ ap (λ (l : List Side). map (side_of choices) (each_once before) ++ l) (sym (side_unless choices (has_value value before) value))
    ∙ sym (map-append (side_of choices) (each_once before) (unless (has_value value before) value))
    ∙ ap (λ (l : List (List ℕ)). map (side_of choices) l) (sym (once_more value before))
    ∙ ap (λ (l : List (List ℕ)). map (side_of choices) (each_once l)) (sym (ap (λ (l : List Seen). values_seen l) longer ∙ values_more (take i cs) c))
