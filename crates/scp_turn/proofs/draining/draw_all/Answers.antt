use Rattle.std.proofs.Common.{◌+◌, [], ◌∷◌, ◌++◌, refl, sym, ◌∙◌}
use Rattle.std.specs.Prelude.{replicate}
use Rattle.std.proofs.lemmas.Result.{err_from_is_err_and}
use Rattle.std.proofs.lemmas.Grind.{replicate_next}
use Rattle.scp_core.specs.declared.event.Event.TheVariants.{Drain}
use Rattle.scp_turn.specs.Watch.{notes}
use Rattle.scp_turn.specs.inside.Draining.{Drained}
use Rattle.scp_turn.proofs.Draws.{done, draws_none, draws_then, draws_err, draws_as, stay_on}
use Rattle.scp_turn.proofs.draining.draw_all.Goals as goal

pub loop-init : goal.loop-init
loop-init g c = record { drawn = draws_none g.A.Driver.says (notes g.W.Watch.notes_before g.W.Watch.notes_after) c.args.watch.now c.args.node.now c.args.sent.now.items; others = λ m apart. refl; runs = refl }

pub returns-in_err-draw-clause-drawn : goal.returns-in_err-draw-clause-drawn
returns-in_err-draw-clause-drawn g c =
    let p = err_from_is_err_and c.from_residual.result c.from_residual.ensures.1 in
    let l = c.args.link in
    rw p.1 (draws_err g.A.Driver.says (notes g.W.Watch.notes_before g.W.Watch.notes_after) p.0 done c.draw.result c.args.watch.now c.loop.watch c.draw.new.watch c.args.node.now c.loop.node c.draw.new.node
    (λ heard. Drained (replicate c.loop.counter (Drain l)) c.args.sent.now.items c.loop.sent.items heard)
    (λ heard. Drained (Drain l ∷ []) c.loop.sent.items c.draw.new.sent.items heard)
    (λ heard. Drained (replicate c.args.count (Drain l)) c.args.sent.now.items c.draw.new.sent.items heard)
    c.loop.invariant.drawn c.draw.ensures.drawn)

pub loop-preserved : goal.loop-preserved
loop-preserved g c =
    let l = c.args.link in
    let k = c.loop.counter in
    let a = c.args.node.now in
    let n = c.draw.new.node in
    record {
      drawn = draws_as g.A.Driver.says (notes g.W.Watch.notes_before g.W.Watch.notes_after) done c.args.watch.now c.draw.new.watch a n (replicate k (Drain l) ++ Drain l ∷ []) (replicate (k + 1) (Drain l)) c.args.sent.now.items c.draw.new.sent.items (sym (replicate_next k (Drain l)))
          (draws_then g.A.Driver.says (notes g.W.Watch.notes_before g.W.Watch.notes_after) done c.args.watch.now c.loop.watch c.draw.new.watch a c.loop.node n (replicate k (Drain l)) (Drain l ∷ []) c.args.sent.now.items c.loop.sent.items c.draw.new.sent.items c.loop.invariant.drawn c.in_ok-draw.ensures.drawn);
      others = stay_on l a c.loop.node n c.loop.invariant.others c.in_ok-draw.ensures.others;
      runs = c.in_ok-draw.ensures.runs ∙ c.loop.invariant.runs;
    }
