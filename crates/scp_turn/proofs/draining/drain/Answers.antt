use Rattle.std.proofs.Common.{◌+◌, ◌++◌, refl, ◌∙◌}
use Rattle.std.specs.Prelude.{replicate}
use Rattle.std.proofs.lemmas.Result.{err_from_is_err_and}
use Rattle.scp_core.specs.declared.event.Event.TheVariants.{Drain}
use Rattle.scp_turn.specs.Watch.{notes}
use Rattle.scp_turn.specs.Turn.{links_of}
use Rattle.scp_turn.specs.Episode.{drains_of}
use Rattle.scp_turn.specs.inside.Draining.{Drained}
use Rattle.scp_turn.proofs.Draws.{done, draws_none, draws_then, draws_err, draws_as, all_with, rest_stay}
use Rattle.scp_turn.proofs.draining.drain.Goals as goal

pub loop-link-init : goal.loop-link-init
loop-link-init g c = record { drained = draws_none g.A.Driver.says (notes g.W.Watch.notes_before g.W.Watch.notes_after) c.args.watch.now c.args.node.now c.args.sent.now.items; rest = λ m le. refl; runs = refl }

pub returns-in_err-draw_all-clause-drained : goal.returns-in_err-draw_all-clause-drained
returns-in_err-draw_all-clause-drained g c =
    let p = err_from_is_err_and c.from_residual.result c.from_residual.ensures.1 in
    let l = c.loop-link.link in
    let a = c.args.node.now in
    let d = draws_err g.A.Driver.says (notes g.W.Watch.notes_before g.W.Watch.notes_after) p.0 done c.draw_all.result c.args.watch.now c.loop-link.watch c.draw_all.new.watch a c.loop-link.node c.draw_all.new.node
    (λ heard. Drained (drains_of a l) c.args.sent.now.items c.loop-link.sent.items heard)
    (λ heard. Drained (replicate c.leaving-count.result (Drain l)) c.loop-link.sent.items c.draw_all.new.sent.items heard)
    (λ heard. Drained (drains_of a (links_of a)) c.args.sent.now.items c.draw_all.new.sent.items heard)
    c.loop-link.invariant.drained c.draw_all.ensures.drawn in
    rw p.1 (record { heard = d.heard; is = d.is; does = d.does; theorem = d.theorem })

pub loop-link-preserved : goal.loop-link-preserved
loop-link-preserved g c =
    let l = c.loop-link.link in
    let a = c.args.node.now in
    let m = c.loop-link.node in
    let n = c.draw_all.new.node in
    let count = c.leaving-count.result in
    record {
      drained = draws_as g.A.Driver.says (notes g.W.Watch.notes_before g.W.Watch.notes_after) done c.args.watch.now c.draw_all.new.watch a n (drains_of a l ++ replicate count (Drain l)) (drains_of a (l + 1)) c.args.sent.now.items c.draw_all.new.sent.items (all_with a m l count c.leaving-count.ensures c.loop-link.invariant.rest)
          (draws_then g.A.Driver.says (notes g.W.Watch.notes_before g.W.Watch.notes_after) done c.args.watch.now c.loop-link.watch c.draw_all.new.watch a m n (drains_of a l) (replicate count (Drain l)) c.args.sent.now.items c.loop-link.sent.items c.draw_all.new.sent.items c.loop-link.invariant.drained c.in_ok-draw_all.ensures.drawn);
      rest = rest_stay l a m n c.loop-link.invariant.rest c.in_ok-draw_all.ensures.others;
      runs = c.in_ok-draw_all.ensures.runs ∙ c.loop-link.invariant.runs;
    }
