use Rattle.std.proofs.Common.{◌<◌, ◌++◌, [], ◌∷◌, length, sym, ◌∙◌, ap, arith}
use Rattle.scp_pending.specs.Queues.{resolved_one, lost_by}
use Rattle.scp_pending.specs.Rules.{is_given_up}
use Rattle.scp_pending.specs.declared.parked.Parked.{Parked}
use Rattle.scp_pending.specs.declared.ready.DropCause.TheVariants.{GaveUp}
use Rattle.scp_pending.proofs.Settling.{passed_more}
use Rattle.scp_pending.proofs.queue.give_up_each.Goals as goal

pub loop-i-preserved : goal.loop-i-preserved
loop-i-preserved c =
    let xs = c.args.parked.now.items in
    let rest = c.pop_front.new.self.items in
    let f = resolved_one (is_given_up c.args.fetcher.now) (lost_by GaveUp) in
    let within : c.loop-i.i < length xs = omega (arith, c.loop-i-test.true, c.len-i-end.ensures) in
    c.in_ok-push_back.ensures.items ∙ ap (λ (y : Parked). rest ++ y ∷ []) c.given_up.ensures ∙ passed_more f xs c.loop-i.i c.in-Some.p rest within (sym c.loop-i.invariant ∙ c.in-Some.ensures.items)
