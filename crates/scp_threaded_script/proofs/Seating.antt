-- The ends of outboxes that nodes were given, and hand back.
use Rattle.std.proofs.Common.{◌≡◌, ◌∙◌, ℕ, zero, suc, ◌+◌, ◌-◌, ◌≤◌, ap, sym, refl, subst, List, [], ◌∷◌, ◌++◌, length, Option, Some, None, ◌⊎◌, inl, inr, ⊎_elim, arith}
use Rattle.std.specs.Prelude.{map, slice_get, option_map}
use Rattle.std.specs.Global.{Vec}
use Rattle.std.proofs.lemmas.List.{length-map}
use Rattle.std.proofs.lemmas.Option.{slice_get_within}
use Rattle.atomic_table.specs.Seated.{TableId}
use Rattle.scp_threaded_node.specs.scp_shared_outbox.specs.Ends.{PutterView, MarkerView, TakerView}
use Rattle.scp_threaded_node.specs.scp_shared_outbox.specs.Places.{Each, link_of, peer_at}
use Rattle.scp_threaded_node.specs.scp_shared_outbox.specs.declared.outlets.Outlets.{Outlets}
use Rattle.scp_threaded_node.specs.scp_shared_outbox.specs.Table.{at_place, desk_of, desk_at, AreRows, ArePuttersOf, AreOutletsOf, IsTakerOf, IsAnyTakerOf}
use Rattle.scp_threaded_node.specs.scp_workers.specs.Working.{AreSameOutlets}
use Rattle.scp_threaded_node.specs.declared.node.Source.{Source}
use Rattle.scp_threaded_node.specs.Outlets.{GivenEnds}
use Rattle.scp_threaded_node.specs.Sources.{AreFresh, IsFresh, taker_from}
use Rattle.scp_threaded_node.specs.scp_shared_outbox.proofs.ListsOfAll.{push_cases, some_is, there_is}
use Rattle.scp_threaded_script.specs.inside.Outlets.{desks_in, AreSameMarkers, AreTakenFrom, IsSeated}

-- ---- lists

get_map : {X Y : Type 0} (f : X → Y) (xs : List X) (i : ℕ) → slice_get (map f xs) i ≡ option_map f (slice_get xs i)
get_map f [] i = refl
get_map f (x ∷ xs) zero = refl
get_map f (x ∷ xs) (suc i) = get_map f xs i

-- ---- the same outboxes

-- which outbox it is, by the outboxes of all markers
abbrev desk_among : Option (List TableId) → ℕ → Option TableId
desk_among None place = None
desk_among (Some row) place = slice_get row place

at_row : (row : Option (Vec MarkerView)) (place : ℕ) → option_map desk_of (at_place row place) ≡ desk_among (option_map desks_in row) place
at_row None place = refl
at_row (Some row) place = sym (get_map desk_of row.items place)

desk_by : (markers : List (Vec MarkerView)) (from to : ℕ) → desk_at markers from to ≡ desk_among (slice_get (map desks_in markers) (to - 1)) (link_of from to)
desk_by markers from to = at_row (slice_get markers (to - 1)) (link_of from to) ∙ ap (λ (row : Option (List TableId)). desk_among row (link_of from to)) (sym (get_map desks_in markers (to - 1)))

pub same_desk : (old new : List (Vec MarkerView)) → AreSameMarkers old new → (from to : ℕ) → desk_at new from to ≡ desk_at old from to
same_desk old new same from to = desk_by new from to ∙ ap (λ (rows : List (List TableId)). desk_among (slice_get rows (to - 1)) (link_of from to)) same ∙ sym (desk_by old from to)

-- and as many
pub same_rows : (count : ℕ) (old new : List (Vec MarkerView)) → AreSameMarkers old new → AreRows count old → AreRows count new
same_rows count old new same rows = record {
  nodes = many ∙ rows.nodes;
  each = λ i row at. (let was = there_is old i (omega (arith, slice_get_within new i row at, many)) in ap (λ n. n + 1) (width i row at was.0 was.1) ∙ rows.each i was.0 was.1);
}
  where
    many : length new ≡ length old
    many = sym (length-map new desks_in) ∙ ap (λ (xs : List (List TableId)). length xs) same ∙ length-map old desks_in

    width : (i : ℕ) (row : Vec MarkerView) → slice_get new i ≡ Some row → (was : Vec MarkerView) → slice_get old i ≡ Some was → length row.items ≡ length was.items
    width i row at was before =
        let both : Some (desks_in row) ≡ Some (desks_in was) = ap (option_map desks_in) (sym at) ∙ sym (get_map desks_in new i) ∙ ap (λ (xs : List (List TableId)). slice_get xs i) same ∙ get_map desks_in old i ∙ ap (option_map desks_in) before in
        sym (length-map row.items desk_of) ∙ ap (λ (xs : List TableId). length xs) (some_is (desks_in row) (desks_in was) both) ∙ length-map was.items desk_of

-- ---- the ends that are handed back

-- a stage hands back the ends that it was given
pub putters_back : (count : ℕ) (old new : List (Vec MarkerView)) (node number : ℕ) (given back putters : List PutterView) → AreSameMarkers old new → ArePuttersOf count old node number given → AreSameOutlets given back → putters ≡ back → ArePuttersOf count new node number putters
putters_back count old new node number given back putters same were kept is = subst (λ (ps : List PutterView). ArePuttersOf count new node number ps) (sym is) (record {
  many = ap (λ n. n + 1) kept.many ∙ were.many;
  each = λ place q at.
      let was = there_is given place (omega (arith, slice_get_within back place q at, kept.many)) in
      let k = kept.each place was.0 q was.1 at in
      let w = were.each place was.0 was.1 in
      (same_desk old new same node (peer_at place node) ∙ w.0 ∙ ap (λ (d : TableId). Some d) (sym k.0), k.1 ∙ w.1);
})

-- a courier hands back the end that it was given
pub taker_back : (old new : List (Vec MarkerView)) (node place : ℕ) (given back : TakerView) → AreSameMarkers old new → IsTakerOf old node place given → back.desk ≡ given.desk → back.producers ≡ given.producers → IsTakerOf new node place back
taker_back old new node place given back same was desk many = (same_desk old new same (peer_at place node) node ∙ was.0 ∙ ap (λ (d : TableId). Some d) (sym desk), many ∙ was.1)

-- ---- a node as it is started

sources_any : (markers : List (Vec MarkerView)) (node place : ℕ) (end : Option TakerView) (t : TakerView) → (end ≡ None) ⊎ (end ≡ Some t) → IsTakerOf markers node place t → IsAnyTakerOf markers node place end
sources_any markers node place end t (inl none) is = subst (λ (e : Option TakerView). IsAnyTakerOf markers node place e) (sym none) tt
sources_any markers node place end t (inr some) is = subst (λ (e : Option TakerView). IsAnyTakerOf markers node place e) (sym some) is

-- it is given its own ends
pub seated : (count : ℕ) (markers : List (Vec MarkerView)) (node : ℕ) (o : Outlets) (row : List TakerView) (sources : List (Option Source)) (g : GivenEnds)
    → AreOutletsOf count markers node o → Each (IsTakerOf markers node) row → length row + 1 ≡ count → length sources ≡ length row → AreTakenFrom row sources
    → g.replies ≡ o.pend.items → g.said ≡ o.slot.items → g.answers ≡ o.apply.items → g.takers ≡ map taker_from sources → IsSeated count markers node g
seated count markers node o row sources g own takers wide many taken replies said answers ends = record {
  replies = subst (λ (ps : List PutterView). ArePuttersOf count markers node 0 ps) (sym replies) own.pend;
  said = subst (λ (ps : List PutterView). ArePuttersOf count markers node 1 ps) (sym said) own.slot;
  answers = subst (λ (ps : List PutterView). ArePuttersOf count markers node 2 ps) (sym answers) own.apply;
  takers_many = ap (λ n. n + 1) (ap (λ (ts : List (Option TakerView)). length ts) ends ∙ length-map sources taker_from ∙ many) ∙ wide;
  takers = subst (λ (ts : List (Option TakerView)). Each (IsAnyTakerOf markers node) ts) (sym ends) each;
}
  where
    each : Each (IsAnyTakerOf markers node) (map taker_from sources)
    each place end at =
        let within = slice_get_within (map taker_from sources) place end at in
        let long = length-map sources taker_from in
        let s = there_is sources place (omega (arith, within, long)) in
        let t = there_is row place (omega (arith, within, long, many)) in
        let here : Some end ≡ Some (taker_from s.0) = sym at ∙ get_map taker_from sources place ∙ ap (option_map taker_from) s.1 in
        subst (λ (e : Option TakerView). IsAnyTakerOf markers node place e) (sym (some_is end (taker_from s.0) here)) (sources_any markers node place (taker_from s.0) t.0 (taken place s.0 s.1 t.0 t.1) (takers place t.0 t.1))

-- one source more
pub taken_more : (row : List TakerView) (sources new : List (Option Source)) (t : TakerView) (source : Option Source) → new ≡ sources ++ source ∷ [] → length sources ≡ length row → (taker_from source ≡ None) ⊎ (taker_from source ≡ Some t) → AreTakenFrom row sources → AreTakenFrom (row ++ t ∷ []) new
taken_more row sources new t source is many one all place s at u there =
    by (push_cases sources source s place (ap (λ (xs : List (Option Source)). slice_get xs place) (sym is) ∙ at)) (push_cases row t u place there)
  where
    by : (slice_get sources place ≡ Some s) ⊎ ((place ≡ length sources) × (s ≡ source)) → (slice_get row place ≡ Some u) ⊎ ((place ≡ length row) × (u ≡ t)) → (taker_from s ≡ None) ⊎ (taker_from s ≡ Some u)
    by (inl a) (inl b) = all place s a u b
    by (inl a) (inr b) = absurd (omega (arith, slice_get_within sources place s a, b.0, many))
    by (inr a) (inl b) = absurd (omega (arith, slice_get_within row place u b, a.0, many))
    by (inr a) (inr b) = rw (a.1, b.1) one

-- what is given to couriers is unused
fresh_one : (source : Option Source) (t : TakerView) → (taker_from source ≡ None) ⊎ (taker_from source ≡ Some t) → t.gave ≡ [] → IsFresh source
fresh_one None t taken unused = tt
fresh_one (Some source) t (inl none) unused = let k : Some source.taker ≡ None = none in cc
fresh_one (Some source) t (inr some) unused = ap (λ (x : TakerView). x.gave) (some_is source.taker t some) ∙ unused

pub fresh_taken : (row : List TakerView) (sources : List (Option Source)) → length sources ≡ length row → AreTakenFrom row sources → Each (λ i t. t.gave ≡ []) row → AreFresh sources
fresh_taken row sources many taken unused place source at =
    let t = there_is row place (omega (arith, slice_get_within sources place source at, many)) in
    fresh_one source t.0 (taken place source at t.0 t.1) (unused place t.0 t.1)
