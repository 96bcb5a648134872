-- Which outbox a link has, by its marker.
use Rattle.std.proofs.Common.{◌≡◌, ◌∙◌, ℕ, ◌+◌, ◌-◌, ◌≤◌, ap, sym, refl, List, [], ◌∷◌, ◌++◌, length, Option, Some, None, arith}
use Rattle.std.specs.Prelude.{option_map, slice_get}
use Rattle.std.specs.Global.{Vec}
use Rattle.atomic_table.specs.Seated.{TableId}
use Rattle.scp_shared_outbox.specs.Ends.{MarkerView}
use Rattle.scp_shared_outbox.specs.Places.{link_of}
use Rattle.scp_shared_outbox.specs.Table.{at_place, at_link, desk_of, desk_at}
use Rattle.scp_shared_outbox.specs.inside.Links.{desk_in}
use Rattle.scp_shared_outbox.proofs.Each.{get_before, get_behind}
use Rattle.scp_shared_outbox.proofs.ListsOfAll.{get_left}

-- ---- in a row

-- what is there with one more marker
pub desk_more : (markers new : List MarkerView) (m : MarkerView) → new ≡ markers ++ m ∷ [] → (place : ℕ) (d : TableId) → desk_in markers place ≡ Some d → desk_in new place ≡ Some d
desk_more markers new m is place d h = by (slice_get markers place) refl
  where
    by : (o : Option MarkerView) → slice_get markers place ≡ o → desk_in new place ≡ Some d
    by None e = let k : None ≡ Some d = sym (ap (option_map desk_of) e) ∙ h in cc
    by (Some x) e = ap (option_map desk_of) (ap (λ (l : List MarkerView). slice_get l place) is ∙ get_before markers m x place e ∙ sym e) ∙ h

pub desk_last : (markers new : List MarkerView) (m : MarkerView) → new ≡ markers ++ m ∷ [] → (place : ℕ) → place ≡ length markers → desk_in new place ≡ Some m.desk
desk_last markers new m is place at = ap (option_map desk_of) (ap (λ (l : List MarkerView). slice_get l place) is ∙ ap (slice_get (markers ++ m ∷ [])) at ∙ get_behind markers m)

-- ---- in all rows

row_more : (rows new : List (Vec MarkerView)) (row : Vec MarkerView) → new ≡ rows ++ row ∷ [] → (i place : ℕ) (d : TableId) → option_map desk_of (at_place (slice_get rows i) place) ≡ Some d → option_map desk_of (at_place (slice_get new i) place) ≡ Some d
row_more rows new row is i place d h = by (slice_get rows i) refl
  where
    by : (o : Option (Vec MarkerView)) → slice_get rows i ≡ o → option_map desk_of (at_place (slice_get new i) place) ≡ Some d
    by None e = let k : None ≡ Some d = sym (ap (λ (o : Option (Vec MarkerView)). option_map desk_of (at_place o place)) e) ∙ h in cc
    by (Some x) e = ap (λ (o : Option (Vec MarkerView)). option_map desk_of (at_place o place)) (ap (λ (l : List (Vec MarkerView)). slice_get l i) is ∙ get_before rows row x i e ∙ sym e) ∙ h

-- with one row more
pub desk_at_more : (rows new : List (Vec MarkerView)) (row : Vec MarkerView) → new ≡ rows ++ row ∷ [] → (from to : ℕ) (d : TableId) → desk_at rows from to ≡ Some d → desk_at new from to ≡ Some d
desk_at_more rows new row is from to d h = row_more rows new row is (to - 1) (link_of from to) d h

pub desk_at_last : (rows new : List (Vec MarkerView)) (row : Vec MarkerView) → new ≡ rows ++ row ∷ [] → (from to : ℕ) → to ≡ length rows + 1 → desk_at new from to ≡ desk_in row.items (link_of from to)
desk_at_last rows new row is from to at =
    ap (λ (o : Option (Vec MarkerView)). option_map desk_of (at_place o (link_of from to)))
    (ap (λ (l : List (Vec MarkerView)). slice_get l (to - 1)) is ∙ ap (slice_get (rows ++ row ∷ [])) before ∙ get_behind rows row)
  where
    before : to - 1 ≡ length rows
    before = omega (arith, at)

-- without the last row
pub at_link_front : {T : Type 0} (rows whole : List (Vec T)) (row : Vec T) → whole ≡ rows ++ row ∷ [] → (from to : ℕ) → 1 ≤ to → to ≤ length rows → at_link whole from to ≡ at_link rows from to
at_link_front {T} rows whole row is from to one most =
    ap (λ (o : Option (Vec T)). at_place o (link_of from to))
    (ap (λ (l : List (Vec T)). slice_get l (to - 1)) is ∙ get_left rows row (to - 1) (omega (arith, one, most)))

pub at_link_last : {T : Type 0} (rows whole : List (Vec T)) (row : Vec T) → whole ≡ rows ++ row ∷ [] → (from to : ℕ) → to ≡ length rows + 1 → at_link whole from to ≡ slice_get row.items (link_of from to)
at_link_last {T} rows whole row is from to at =
    ap (λ (o : Option (Vec T)). at_place o (link_of from to))
    (ap (λ (l : List (Vec T)). slice_get l (to - 1)) is ∙ ap (slice_get (rows ++ row ∷ [])) before ∙ get_behind rows row)
  where
    before : to - 1 ≡ length rows
    before = omega (arith, at)

pub desk_at_front : (rows whole : List (Vec MarkerView)) (row : Vec MarkerView) → whole ≡ rows ++ row ∷ [] → (from to : ℕ) → 1 ≤ to → to ≤ length rows → desk_at whole from to ≡ desk_at rows from to
desk_at_front rows whole row is from to one most = ap (option_map desk_of) (at_link_front rows whole row is from to one most)
