use Rattle.std.proofs.Common.{◌≡◌, ◌∙◌, ap, subst, List, [], ◌∷◌, ◌++◌, ℕ, arith}
use Rattle.std.specs.Global.{Vec}
use Rattle.scp_shared_outbox.specs.Ends.{MarkerView, TakerView}
use Rattle.scp_shared_outbox.proofs.Handing.{AreMadeSoFar, none_made, made_more, made_all}
use Rattle.scp_shared_outbox.proofs.making_all.make_all.Goals as goal

pub loop-index-init : goal.loop-index-init
loop-index-init c = none_made c.args.count c.in_ok-outlets.outlets.items c.new-markers.result.items c.new-takers.result.items c.new-markers.ensures.items c.new-takers.ensures.items c.in_ok-outlets.ensures.0 c.in_ok-outlets.ensures.1

pub loop-index-preserved : goal.loop-index-preserved
loop-index-preserved c =
    let row = c.in_ok-row.row in
    let markers = c.loop-index.markers.items in
    let takers = c.loop-index.takers.items in
    let ms : c.push_reserved.new.self.items ≡ markers ++ row.markers ∷ [] = c.push_reserved.ensures.items ∙ ap (λ (xs : List (Vec MarkerView)). xs ++ row.markers ∷ []) c.in_ok-reserve.ensures.items in
    let ts : c.push_reserved-in-loop-index.new.self.items ≡ takers ++ row.takers ∷ [] = c.push_reserved-in-loop-index.ensures.items ∙ ap (λ (xs : List (Vec TakerView)). xs ++ row.takers ∷ []) c.in_ok-reserve-2.ensures.items in
    made_more c.args.count c.loop-index.index c.loop-index.outlets.items c.row_to.new.outlets.items markers c.push_reserved.new.self.items takers c.push_reserved-in-loop-index.new.self.items row.markers row.takers ms ts
    c.in_ok-row.ensures.many.0 c.in_ok-row.ensures.many.1 c.in_ok-row.ensures.unmarked c.in_ok-row.ensures.takers c.in_ok-row.ensures.outlets c.loop-index.invariant

pub returns-clause-made : goal.returns-clause-made
returns-clause-made c =
    let outlets = c.loop-index.outlets.items in
    let markers = c.loop-index.markers.items in
    let takers = c.loop-index.takers.items in
    let all : c.loop-index.index ≡ c.args.count = omega arith in
    made_all c.args.count outlets markers takers (subst (λ (n : ℕ). AreMadeSoFar c.args.count n outlets markers takers) all c.loop-index.invariant)
