use Rattle.std.proofs.Common.{◌≡◌, ◌∙◌, Some, sym}
use Rattle.scp_turn.specs.scp_core.specs.declared.event.Reply.TheVariants.{Accepted, Full}
use Rattle.scp_turn.specs.Watch.{notes}
use Rattle.scp_line.specs.Nodes.{moment}
use Rattle.scp_line.proofs.Acting.{acts_accepted, acts_full}
use Rattle.scp_line.proofs.nodes.act_with.Goals as goal

pub returns-in-Some-default-Accepted : goal.returns-in-Some-default-Accepted
returns-in-Some-default-Accepted g c =
    let taken = c.in-Some-default-Accepted in
    let found : c.in_ok-offer.field-0 ≡ Some (taken.field-0-0, Accepted) = cc (taken.is, taken.field-0-1-is) in
    acts_accepted (notes g.W.Watch.notes_before g.W.Watch.notes_after) (moment c.args.network.now c.args.watch.now) (moment c.offer.new.network c.offer.new.watch) c.args.command.now c.in_ok-offer.field-0 taken.field-0-0 (sym c.is_rest.ensures ∙ c.if-is_rest.false) found c.in_ok-offer.ensures.offers

pub returns-in-Some-default-Full : goal.returns-in-Some-default-Full
returns-in-Some-default-Full g c =
    let full = c.in-Some-default-Full in
    let found : c.in_ok-offer.field-0 ≡ Some (full.field-0-0, Full) = cc (full.is, full.field-0-1-is) in
    acts_full (notes g.W.Watch.notes_before g.W.Watch.notes_after) (moment c.args.network.now c.args.watch.now) (moment c.offer.new.network c.offer.new.watch) (moment c.act_again.new.network c.act_again.new.watch) c.args.command.now c.in_ok-offer.field-0 full.field-0-0 c.act_again.result (sym c.is_rest.ensures ∙ c.if-is_rest.false) found c.in_ok-offer.ensures.offers c.act_again.ensures
