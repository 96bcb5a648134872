use Rattle.std.proofs.Common.{◌≡◌, List, ℕ, ◌++◌, refl, subst}
use Rattle.scp_stand_node.specs.scp_types.specs.declared.fault.Fault.TheVariants.{NoMemory, BadConfig}
use Rattle.scp_stand_node.specs.scp_turn.specs.Watch.{notes}
use Rattle.scp_batches.specs.scp_live_log.specs.Kept.{IsSettled}
use Rattle.scp_batches.specs.scp_live_log.specs.Log.{EntryView, batch_of}
use Rattle.scp_live_process.specs.Closing.{HasNoCloseLine}
use Rattle.scp_live.proofs.Going.{none_found}
use Rattle.scp_live_process.proofs.Going.{seen_nothing, seen_as}
use Rattle.scp_live_process.proofs.Acts.{err_as, full_as, unfilled, unfilled_yet}
use Rattle.scp_live_process.proofs.Served.{stays, stays_by}
use Rattle.scp_live_process.proofs.Started.{are_closed}
use Rattle.scp_live_process.proofs.starting.close_links.Goals as goal

pub returns-in-Err-clause-closed : goal.returns-in-Err-clause-closed
returns-in-Err-clause-closed g c = seen_nothing (notes g.V.Watch.notes_before g.V.Watch.notes_after) c.args.watch.now c.args.live.now.node _ (tt, (λ e. absurd cc, λ found. absurd (none_found found)))

pub returns-in-Err-clause-stays : goal.returns-in-Err-clause-stays
returns-in-Err-clause-stays g c = stays g.L.EventLog.holds g.L.EventLog.may_leave c.args.kept.now

pub returns-in-Err-close_all-clause-closed : goal.returns-in-Err-close_all-clause-closed
returns-in-Err-close_all-clause-closed g c =
    seen_as (notes g.V.Watch.notes_before g.V.Watch.notes_after) c.args.watch.now c.close_all.new.watch c.args.live.now.node c.close_all.new.live.node _ _ (λ heard p. (tt, full_as c.in-Err-close_all.fault heard p.1)) c.in-Err-close_all.ensures.closed

pub returns-in-Err-close_all-clause-stays : goal.returns-in-Err-close_all-clause-stays
returns-in-Err-close_all-clause-stays g c = stays g.L.EventLog.holds g.L.EventLog.may_leave c.args.kept.now

pub returns-in-Err-close_all-clause-unsaid : goal.returns-in-Err-close_all-clause-unsaid
returns-in-Err-close_all-clause-unsaid g c e =
    (subst (λ (l : List ℕ). HasNoCloseLine c.args.live.now.names l) c.in-Ok.ensures (c.in-Err-close_all.ensures.unsaid (err_as c.in-Err-close_all.fault BadConfig e)), refl)

pub returns-in-Err-keep-clause-closed : goal.returns-in-Err-keep-clause-closed
returns-in-Err-keep-clause-closed g c =
    seen_as (notes g.V.Watch.notes_before g.V.Watch.notes_after) c.args.watch.now c.close_all.new.watch c.args.live.now.node c.close_all.new.live.node _ _ (λ heard p. (tt, unfilled_yet c.in-Err-keep.fault heard c.in-Err-keep.ensures.only (unfilled {T = Unit {0}} tt heard p.1))) c.in-Ok-close_all.ensures.closed

pub returns-in-Err-keep-clause-stays : goal.returns-in-Err-keep-clause-stays
returns-in-Err-keep-clause-stays g c = stays_by g.L.EventLog.holds g.L.EventLog.may_leave g.L.EventLog.moment g.L.EventLog.left_since c.args.kept.now c.keep.new.self g.met.L.EventLog.counts_now c.keep.ensures.any_moment

pub returns-in-Err-keep-clause-hidden : goal.returns-in-Err-keep-clause-hidden
returns-in-Err-keep-clause-hidden g c e =
    let same : c.in-Err-keep.fault ≡ NoMemory = cc in
    c.in-Err-keep.ensures.hidden (λ d. cc)

pub returns-then-may_be_open-clause-closed : goal.returns-then-may_be_open-clause-closed
returns-then-may_be_open-clause-closed g c =
    seen_as (notes g.V.Watch.notes_before g.V.Watch.notes_after) c.args.watch.now c.close_all.new.watch c.args.live.now.node c.close_all.new.live.node _ _ (λ heard p. (tt, (λ e. absurd cc, λ found. absurd (unfilled {T = Unit {0}} tt heard p.1 found)))) c.in-Ok-close_all.ensures.closed

pub returns-then-may_be_open-clause-stays : goal.returns-then-may_be_open-clause-stays
returns-then-may_be_open-clause-stays g c = stays_by g.L.EventLog.holds g.L.EventLog.may_leave g.L.EventLog.moment g.L.EventLog.left_since c.args.kept.now c.keep.new.self g.met.L.EventLog.counts_now c.keep.ensures.any_moment

pub returns-then-may_be_open-clause-still : goal.returns-then-may_be_open-clause-still
returns-then-may_be_open-clause-still g c e = c.if-may_be_open.ensures.some

pub returns-clause-closed : goal.returns-clause-closed
returns-clause-closed g c =
    seen_as (notes g.V.Watch.notes_before g.V.Watch.notes_after) c.args.watch.now c.close_all.new.watch c.args.live.now.node c.close_all.new.live.node _ _
    (λ heard p. (are_closed c.in-Ok.links.items c.args.live.now c.close_all.new.live heard c.new-batch.result c.close_all.new.batch c.into_parts-text.result.1.items c.new-batch.ensures c.into_parts-text.ensures.entries c.in-Ok.ensures c.if-may_be_open.ensures.none p.0, (λ e. absurd cc, λ found. absurd (unfilled {T = Unit {0}} tt heard p.1 found))))
    c.in-Ok-close_all.ensures.closed

pub returns-clause-kept : goal.returns-clause-kept
returns-clause-kept g c header ms s = subst (λ (l : List EntryView). IsSettled g.L.EventLog.holds g.L.EventLog.may_leave header (ms ++ batch_of l) c.keep.new.self) c.as_slice.ensures.value (c.in-Ok-keep.ensures.kept header ms s)

pub returns-clause-stays : goal.returns-clause-stays
returns-clause-stays g c = stays_by g.L.EventLog.holds g.L.EventLog.may_leave g.L.EventLog.moment g.L.EventLog.left_since c.args.kept.now c.keep.new.self g.met.L.EventLog.counts_now c.keep.ensures.any_moment
