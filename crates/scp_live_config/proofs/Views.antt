-- A table and an array of the library, by what they say.
use Rattle.std.proofs.Common.{◌≡◌, ℕ, ◌+◌, ◌<◌, List, [], ◌∷◌, ◌++◌, map, length, take, get_or, Some, option_map, String, Global, string_bytes, refl, sym, ap, ◌∙◌, append_assoc}
use Rattle.std.specs.List.{slice_get}
use Rattle.std.proofs.lemmas.List.{take_more, map_push}
use Rattle.std.proofs.lemmas.Option.{slice_get-get_or, slice_get-map}
use Rattle.scp_live_config.proofs.Lists.{at_seam}
use Rattle.toml.specs.Data.{Data}
use Rattle.toml.specs.View.{view, items_view, members_view}
use Rattle.toml.specs.declared.value.Value.{Value}
use Rattle.scp_live_config.specs.Names.{pairs_of, values_of}

abbrev pub Entry : Type 0
Entry = String Global × Value

-- the values of an array
pub values_view : (vs : List Value) → values_of (items_view vs) ≡ map view vs
values_view [] = refl
values_view (v ∷ vs) = ap (λ l. view v ∷ l) (values_view vs)

-- the pair behind those that were gone over
pub pair_at : (all done : List (List ℕ × Data)) (left next : List Entry) (key : String Global) (value : Value) → all ≡ done ++ pairs_of (members_view left) → left ≡ (key, value) ∷ next
    → slice_get all (length done) ≡ Some (string_bytes key, view value)
pair_at all done left next key value e steps =
    let spread : all ≡ done ++ (string_bytes key, view value) ∷ pairs_of (members_view next) = e ∙ ap (λ (es : List Entry). done ++ pairs_of (members_view es)) steps in
    ap (λ (ps : List (List ℕ × Data)). slice_get ps (length done)) spread ∙ at_seam done (string_bytes key, view value) (pairs_of (members_view next))

-- and it is gone over
pub pair_more : (all done : List (List ℕ × Data)) (left next : List Entry) (key : String Global) (value : Value) → all ≡ done ++ pairs_of (members_view left) → left ≡ (key, value) ∷ next
    → all ≡ (done ++ (string_bytes key, view value) ∷ []) ++ pairs_of (members_view next)
pair_more all done left next key value e steps =
    let spread : all ≡ done ++ (string_bytes key, view value) ∷ pairs_of (members_view next) = e ∙ ap (λ (es : List Entry). done ++ pairs_of (members_view es)) steps in
    spread ∙ sym (append_assoc done ((string_bytes key, view value) ∷ []) (pairs_of (members_view next)))

-- what the values up to a place say, and the one at it
pub take_said : {A : Type 0} → (f : Data → A) (vs : List Value) (i : ℕ) (v : Value) → i < length vs → v ≡ get_or vs i v → map f (map view (take (i + 1) vs)) ≡ map f (map view (take i vs)) ++ f (view v) ∷ []
take_said f vs i v within e =
    let more : take (i + 1) vs ≡ take i vs ++ v ∷ [] = take_more vs i v within ∙ ap (λ (x : Value). take i vs ++ x ∷ []) (sym e) in
    ap (λ (xs : List Value). map f (map view xs)) more ∙ ap (λ (ds : List Data). map f ds) (map_push view (take i vs) v) ∙ map_push f (map view (take i vs)) (view v)

pub at_said : {A : Type 0} → (f : Data → A) (vs : List Value) (i : ℕ) (v : Value) → i < length vs → v ≡ get_or vs i v → slice_get (map f (map view vs)) i ≡ Some (f (view v))
at_said f vs i v within e =
    let here : slice_get vs i ≡ Some v = slice_get-get_or vs i v within ∙ ap Some (sym e) in
    slice_get-map f (map view vs) i ∙ ap (option_map f) (slice_get-map view vs i ∙ ap (option_map view) here)

-- the values up to a place, and the one at it
pub values_more : (vs : List Value) (i : ℕ) (v : Value) → i < length vs → v ≡ get_or vs i v → map view (take (i + 1) vs) ≡ map view (take i vs) ++ view v ∷ []
values_more vs i v within e =
    let more : take (i + 1) vs ≡ take i vs ++ v ∷ [] = take_more vs i v within ∙ ap (λ (x : Value). take i vs ++ x ∷ []) (sym e) in
    ap (λ (xs : List Value). map view xs) more ∙ map_push view (take i vs) v
