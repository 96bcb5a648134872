use Rattle.std.proofs.Common.{◌≡◌, ◌<◌, length, ◌++◌, List, get_or, subst, sym, arith, ap, ◌∙◌, refl, []}
use Rattle.std.specs.Prelude.{map, take, drop}
use Rattle.std.specs.Global.{Vec}
use Rattle.std.proofs.lemmas.List.{drop_all, take_all, append-nil, length-map}
use Rattle.std.proofs.lemmas.Option.{slice_get-get_or}
use Rattle.scp_threaded_node.specs.scp_shared_outbox.specs.Ends.{MarkerView}
use Rattle.scp_threaded_node.specs.scp_shared_outbox.specs.Table.{desk_of}
use Rattle.scp_threaded_node.proofs.Given.{map_set}
use Rattle.scp_threaded_script.proofs.outboxes.stop_to.Goals as goal

pub loop-marker-init : goal.loop-marker-init
loop-marker-init g c = subst (λ (xs : List (MarkerView)). map desk_of xs ≡ map desk_of c.args.row.now.items) (sym c.deref_mut-marker-items.ensures.value) refl

pub loop-marker-preserved : goal.loop-marker-preserved
loop-marker-preserved g c =
    let xs : List (MarkerView) = c.loop-marker.marker-items in
    let i = c.loop-marker.marker-index in
    let d : MarkerView = c.marker-item.result in
    let inside : i < length xs = omega arith in
    map_set desk_of xs i (get_or xs i d) c.stop.new.marker (slice_get-get_or xs i d inside) c.stop.ensures ∙ c.loop-marker.invariant

pub returns : goal.returns
returns g c =
    let xs : List (MarkerView) = c.loop-marker.marker-items in
    let ys : List (MarkerView) = c.args.row.now.items in
    let count : length xs ≡ length ys = sym (length-map xs desk_of) ∙ ap (λ zs. length zs) c.loop-marker.invariant ∙ length-map ys desk_of in
    let full : c.args.row.now.len ≡ length ys = omega (arith, c.deref_mut-marker-items.ensures.len, ap length c.deref_mut-marker-items.ensures.value) in
    let none : drop (length xs) ys ≡ [] = drop_all (length xs) ys (omega arith) in
    let all : take c.args.row.now.len (xs ++ drop (length xs) ys) ≡ xs = ap (λ (t : List (MarkerView)). take c.args.row.now.len (xs ++ t)) none ∙ ap (take c.args.row.now.len) (append-nil xs) ∙ take_all c.args.row.now.len xs (omega arith) in
    subst (λ (zs : List (MarkerView)). map desk_of zs ≡ map desk_of ys) (sym all) c.loop-marker.invariant
