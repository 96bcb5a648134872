use Rattle.std.proofs.Common.{◌<◌, length, sym, ◌∙◌, ap, set, arith}
use Rattle.std.proofs.lemmas.List.Edits.{map_over_more}
use Rattle.scp_pending.specs.Queues.{resolved_one, is_hash}
use Rattle.scp_pending.specs.inside.Outcome.{outcome_of}
use Rattle.scp_pending.specs.declared.parked.Parked.{Parked}
use Rattle.scp_pending.proofs.Settling.{kept_more, other_stays}
use Rattle.scp_pending.proofs.queue.settle_each.Goals as goal
use Rattle.scp_pending.proofs.queue.settle_each.Goals.{then-waits_for+in_ok-settle_at, else-waits_for}

pub loop-i-preserved : goal.loop-i-preserved
loop-i-preserved c =
    let xs = c.args.parked.now.items in
    let ys = c.loop-i.parked.items in
    let x = c.index.result.now in
    let f = resolved_one (is_hash c.args.hash.now) (outcome_of c.args.outcome.now) in
    let within : c.loop-i.i < length xs = omega (arith, c.loop-i-test.true, c.len-i-end.ensures) in
    elim c.if-waits_for.branch [
      | then-waits_for+in_ok-settle_at w ↦ ap (λ p. p.items) w.parked-is ∙ w.in_ok-settle_at.ensures x ∙ ap (λ (y : Parked). set ys c.loop-i.i (f y)) (sym c.index.ensures) ∙ map_over_more f xs ys c.loop-i.i x within c.loop-i.invariant c.index.ensures
      | else-waits_for w ↦ ap (λ p. p.items) w.parked-is ∙ kept_more f xs ys c.loop-i.i x within c.loop-i.invariant c.index.ensures (other_stays c.args.hash.now (outcome_of c.args.outcome.now) x (sym c.waits_for.ensures ∙ w.if-waits_for.false))
    ]
