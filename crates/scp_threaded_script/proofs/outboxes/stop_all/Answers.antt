use Rattle.std.proofs.Common.{◌≡◌, ◌<◌, length, ◌++◌, List, get_or, subst, sym, arith, ap, ◌∙◌, refl, []}
use Rattle.std.specs.Prelude.{map, take, drop}
use Rattle.std.specs.Global.{Vec}
use Rattle.std.proofs.lemmas.List.{drop_all, take_all, append-nil, length-map}
use Rattle.std.proofs.lemmas.Option.{slice_get-get_or}
use Rattle.scp_threaded_node.specs.scp_shared_outbox.specs.Ends.{MarkerView}
use Rattle.scp_threaded_script.specs.inside.Outlets.{desks_in}
use Rattle.scp_threaded_node.proofs.Given.{map_set}
use Rattle.scp_threaded_script.proofs.outboxes.stop_all.Goals as goal

pub loop-row-init : goal.loop-row-init
loop-row-init g c = subst (λ (xs : List (Vec MarkerView)). map desks_in xs ≡ map desks_in c.args.markers.now.items) (sym c.deref_mut-row-items.ensures.value) refl

pub loop-row-preserved : goal.loop-row-preserved
loop-row-preserved g c =
    let xs : List (Vec MarkerView) = c.loop-row.row-items in
    let i = c.loop-row.row-index in
    let d : Vec MarkerView = c.row-item.result in
    let inside : i < length xs = omega arith in
    map_set desks_in xs i (get_or xs i d) c.stop_to.new.row (slice_get-get_or xs i d inside) c.stop_to.ensures ∙ c.loop-row.invariant

pub returns : goal.returns
returns g c =
    let xs : List (Vec MarkerView) = c.loop-row.row-items in
    let ys : List (Vec MarkerView) = c.args.markers.now.items in
    let count : length xs ≡ length ys = sym (length-map xs desks_in) ∙ ap (λ zs. length zs) c.loop-row.invariant ∙ length-map ys desks_in in
    let full : c.args.markers.now.len ≡ length ys = omega (arith, c.deref_mut-row-items.ensures.len, ap length c.deref_mut-row-items.ensures.value) in
    let none : drop (length xs) ys ≡ [] = drop_all (length xs) ys (omega arith) in
    let all : take c.args.markers.now.len (xs ++ drop (length xs) ys) ≡ xs = ap (λ (t : List (Vec MarkerView)). take c.args.markers.now.len (xs ++ t)) none ∙ ap (take c.args.markers.now.len) (append-nil xs) ∙ take_all c.args.markers.now.len xs (omega arith) in
    subst (λ (zs : List (Vec MarkerView)). map desks_in zs ≡ map desks_in ys) (sym all) c.loop-row.invariant
