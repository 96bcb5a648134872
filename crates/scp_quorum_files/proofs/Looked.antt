-- A value of the library, by the data that it stands for.
use Rattle.std.proofs.Common.{◌≡◌, ℕ, ◌+◌, ◌<◌, List, [], ◌∷◌, ◌++◌, map, take, length, get_or, Some, option_map, String, Global, string_bytes, rules, refl, sym, ap, ◌∙◌, append_assoc}
use Rattle.std.specs.List.{slice_get}
use Rattle.std.proofs.lemmas.List.{append-nil, take_more, map_push}
use Rattle.std.proofs.lemmas.Option.{slice_get-get_or, slice_get-map}
use Rattle.serde_json.specs.Data.{Data, null, boolean, number, string, array, object}
use Rattle.serde_json.specs.Find.{get, get_member}
use Rattle.serde_json.specs.View.{view, items_of, items_view}
use Rattle.serde_json.specs.declared.value.Value.{Value, the_lemmas}
use Rattle.serde_json.specs.declared.value.Value.TheVariants as value
use Rattle.scp_quorum_files.specs.Documents.{values_of}
use Rattle.scp_quorum_files.specs.Networks.{members_in}

abbrev pub Entry : Type 0
Entry = String Global × Value

-- ---- arrays and objects

pub values-items_of : (ds : List Data) → values_of (items_of ds) ≡ ds
values-items_of [] = refl
values-items_of (d ∷ ds) = ap (λ (xs : List Data). d ∷ xs) (values-items_of ds)

pub values-items_view : (vs : List Value) → values_of (items_view vs) ≡ map view vs
values-items_view vs = values-items_of (map view vs)

pub get-members_in : (key : List ℕ) (d : Data) → get key d ≡ get_member key (members_in d)
get-members_in key null = refl
get-members_in key (boolean b) = refl
get-members_in key (number n) = refl
get-members_in key (string s) = refl
get-members_in key (array ds) = refl
get-members_in key (object ms) = refl

-- ---- a value by its kind

pub view_text : (v : Value) (text : String Global) → v ≡ value.String text → view v ≡ string (string_bytes text)
view_text v text e = ap view e ∙ of_text text
  where
    of_text : (t : String Global) → view (value.String t) ≡ string (string_bytes t)
    of_text t = search (rules, the_lemmas)

pub view_null : (v : Value) → v ≡ value.Null → view v ≡ null
view_null v e = ap view e ∙ of_null
  where
    of_null : view value.Null ≡ null
    of_null = search (rules, the_lemmas)

-- ---- texts

-- one more text
pub texts_more : (old new : List (String Global)) (text : String Global) (key : List ℕ) (rest all : List (List ℕ)) → new ≡ old ++ text ∷ [] → string_bytes text ≡ key → map string_bytes old ++ key ∷ rest ≡ all → map string_bytes new ++ rest ≡ all
texts_more old new text key rest all added is so_far =
    ap (λ (ts : List (String Global)). map string_bytes ts ++ rest) added
    ∙ ap (λ (ks : List (List ℕ)). ks ++ rest) (map_push string_bytes old text)
    ∙ append_assoc (map string_bytes old) (string_bytes text ∷ []) rest
    ∙ ap (λ (k : List ℕ). map string_bytes old ++ k ∷ rest) is
    ∙ so_far

-- more texts
pub rows_more : {X : Type 0} (old new front rest all : List X) → new ≡ old ++ front → old ++ (front ++ rest) ≡ all → new ++ rest ≡ all
rows_more old new front rest all added so_far = ap (λ ts. ts ++ rest) added ∙ append_assoc old front rest ∙ so_far

pub rows_end : {X : Type 0} (new rest all : List X) → rest ≡ [] → new ++ rest ≡ all → new ≡ all
rows_end new rest all none so_far = sym (append-nil new) ∙ ap (λ ts. new ++ ts) (sym none) ∙ so_far

-- ---- values at places

pub values_more : (vs : List Value) (i : ℕ) (v : Value) → i < length vs → v ≡ get_or vs i v → map view (take (i + 1) vs) ≡ map view (take i vs) ++ view v ∷ []
values_more vs i v within e =
    let more : take (i + 1) vs ≡ take i vs ++ v ∷ [] = take_more vs i v within ∙ ap (λ (x : Value). take i vs ++ x ∷ []) (sym e) in
    ap (λ (xs : List Value). map view xs) more ∙ map_push view (take i vs) v

pub value_at : (vs : List Value) (i : ℕ) (v : Value) → i < length vs → v ≡ get_or vs i v → slice_get (map view vs) i ≡ Some (view v)
value_at vs i v within e =
    let here : slice_get vs i ≡ Some v = slice_get-get_or vs i v within ∙ ap Some (sym e) in
    slice_get-map view vs i ∙ ap (option_map view) here
