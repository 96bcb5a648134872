use Rattle.std.proofs.Common.{◌≡◌, ◌∙◌, ap, sym, subst, List, [], ◌∷◌, ◌++◌, ◌+◌, ℕ, Some, arith}
use Rattle.std.specs.Prelude.{slice_get, slice_set}
use Rattle.std.proofs.lemmas.Option.{slice_get-get_or}
use Rattle.scp_shared_outbox.specs.Ends.{MarkerView, TakerView}
use Rattle.scp_shared_outbox.specs.declared.outlets.Outlets.{Outlets}
use Rattle.scp_shared_outbox.specs.inside.Links.{fresh}
use Rattle.scp_shared_outbox.proofs.Handing.{IsRowSoFar, row_same, row_more, three_fresh}
use Rattle.scp_shared_outbox.proofs.making_all.row_to.Goals as goal

pub loop-index-preserved-then-index-to : goal.loop-index-preserved-then-index-to
loop-index-preserved-then-index-to c = row_same c.args.to c.loop-index.index c.args.outlets.now.items c.loop-index.outlets.items c.loop-index.markers.items c.loop-index.takers.items (omega arith) c.loop-index.invariant

pub loop-index-preserved : goal.loop-index-preserved
loop-index-preserved c =
    let to = c.args.to in
    let index = c.loop-index.index in
    let olds = c.args.outlets.now.items in
    let mids = c.loop-index.outlets.items in
    let markers = c.loop-index.markers.items in
    let markers2 = c.push_reserved.new.self.items in
    let takers = c.loop-index.takers.items in
    let takers2 = c.push_reserved-in-loop-index.new.self.items in
    let m = c.in_ok-putters.marker in
    let t = c.in_ok-putters.taker in
    let o = c.index_mut.result.now in
    let o2 = c.add.new.outlets in
    let ends = c.in_ok-putters.ensures.ends in
    let place = c.from.result in
    let at : place ≡ index = omega arith in
    let was : slice_get mids place ≡ Some o = slice_get-get_or mids place o (omega (arith, c.loop-index.invariant.outlets.many)) ∙ ap (λ (x : Outlets). Some x) (sym c.index_mut.ensures.value) in
    let ms : markers2 ≡ markers ++ m ∷ [] = c.push_reserved.ensures.items ∙ ap (λ (xs : List MarkerView). xs ++ m ∷ []) c.in_ok-reserve.ensures.items in
    let ts : takers2 ≡ takers ++ t ∷ [] = c.push_reserved-in-loop-index.ensures.items ∙ ap (λ (xs : List TakerView). xs ++ t ∷ []) c.in_ok-reserve-2.ensures.items in
    let more = c.in_ok-add.ensures (fresh t.desk 0) (fresh t.desk 1) (fresh t.desk 2) (three_fresh t.desk c.in_ok-putters.putters.items ends.many ends.putters_are) in
    subst (λ (k : ℕ). IsRowSoFar to (index + 1) olds (slice_set mids k o2) markers2 takers2) (sym at)
    (row_more to index olds mids markers markers2 takers takers2 o o2 m t c.requires.number.0 (omega arith) (ap (slice_get mids) (sym at) ∙ was) more ms ts
    (ap (λ (x : MarkerView). x.desk) ends.marker_is) (ap (λ (x : MarkerView). x.marked) ends.marker_is) (ap (λ (x : TakerView). x.producers) ends.taker_is) (ap (λ (x : TakerView). x.gave) ends.taker_is) c.loop-index.invariant)
