use Rattle.std.proofs.Common.{rules, ◌≡◌, Some, refl}
use Rattle.std.proofs.lemmas.Result.{err_from_is_err_and}
use Rattle.scp_turn.specs.scp_types.specs.declared.fault.Fault.TheVariants.{Failed}
use Rattle.scp_turn.specs.scp_core.specs.declared.event.Reply.TheVariants.{Accepted, Full}
use Rattle.scp_turn.specs.Watch.{notes}
use Rattle.scp_line.specs.Nodes.{moment}
use Rattle.scp_line.proofs.Acting.{again_settle_fails, again_missed, again_accepted, again_full, again_wants, again_refused}
use Rattle.scp_line.proofs.nodes.act_again.Goals as goal

pub returns-in_err-calm : goal.returns-in_err-calm
returns-in_err-calm g c =
    let p = err_from_is_err_and c.from_residual.result c.from_residual.ensures.1 in
    rw (p.1, p.2) (again_settle_fails (notes g.W.Watch.notes_before g.W.Watch.notes_after) (moment c.args.network.now c.args.watch.now) (moment c.settle.new.network c.settle.new.watch) c.args.command.now c.in_err-calm.field-0.0 c.in_err-calm.ensures)

pub returns-in_err-offer : goal.returns-in_err-offer
returns-in_err-offer g c =
    let p = err_from_is_err_and c.from_residual-in_err-offer.result c.from_residual-in_err-offer.ensures.1 in
    rw (p.1, p.2, c.in_err-offer.ensures.only_memory) (again_wants (notes g.W.Watch.notes_before g.W.Watch.notes_after) (moment c.args.network.now c.args.watch.now) (moment c.settle.new.network c.settle.new.watch) (moment c.offer.new.network c.offer.new.watch) c.args.command.now c.in_ok-calm.calm _ (refl, refl) c.in_ok-calm.ensures)

pub returns-in-None : goal.returns-in-None
returns-in-None g c =
    again_missed (notes g.W.Watch.notes_before g.W.Watch.notes_after) (moment c.args.network.now c.args.watch.now) (moment c.settle.new.network c.settle.new.watch) (moment c.offer.new.network c.offer.new.watch) c.args.command.now c.in_ok-calm.calm c.in_ok-offer.field-0 c.in-None.is c.in_ok-calm.ensures c.in_ok-offer.ensures.offers

pub returns-in-Some-default-Accepted : goal.returns-in-Some-default-Accepted
returns-in-Some-default-Accepted g c =
    let taken = c.in-Some-default-Accepted in
    let found : c.in_ok-offer.field-0 ≡ Some (taken.field-0-0, Accepted) = cc (taken.is, taken.field-0-1-is) in
    again_accepted (notes g.W.Watch.notes_before g.W.Watch.notes_after) (moment c.args.network.now c.args.watch.now) (moment c.settle.new.network c.settle.new.watch) (moment c.offer.new.network c.offer.new.watch) c.args.command.now c.in_ok-calm.calm c.in_ok-offer.field-0 taken.field-0-0 found c.in_ok-calm.ensures c.in_ok-offer.ensures.offers

pub returns-in-Some-default-Full : goal.returns-in-Some-default-Full
returns-in-Some-default-Full g c =
    let full = c.in-Some-default-Full in
    let found : c.in_ok-offer.field-0 ≡ Some (full.field-0-0, Full) = cc (full.is, full.field-0-1-is) in
    again_full (notes g.W.Watch.notes_before g.W.Watch.notes_after) (moment c.args.network.now c.args.watch.now) (moment c.settle.new.network c.settle.new.watch) (moment c.offer.new.network c.offer.new.watch) c.args.command.now c.in_ok-calm.calm c.in_ok-offer.field-0 full.field-0-0 c.from.result found c.from.ensures c.in_ok-calm.ensures c.in_ok-offer.ensures.offers

pub returns : goal.returns
returns g c =
    again_refused (notes g.W.Watch.notes_before g.W.Watch.notes_after) (moment c.args.network.now c.args.watch.now) (moment c.settle.new.network c.settle.new.watch) (moment c.offer.new.network c.offer.new.watch) c.args.command.now c.in_ok-calm.calm c.in_ok-offer.field-0 (record { fault = Failed; node = c.in-Some.node }) c.in-Some.field-0-1 c.in-Some.is (search rules) (search rules) c.in_ok-calm.ensures c.in_ok-offer.ensures.offers
