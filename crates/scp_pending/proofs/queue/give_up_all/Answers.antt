use Rattle.std.proofs.Common.{◌≡◌, false, arith}
use Rattle.scp_pending.specs.Queues.{resolved_in, lost_by}
use Rattle.scp_pending.specs.Rules.{is_given_up}
use Rattle.scp_pending.specs.declared.ready.DropCause.TheVariants.{GaveUp}
use Rattle.scp_pending.proofs.Keeping.{went_on, went_at, went_stays, went_leaves}
use Rattle.std.specs.List.{list_any}
use Rattle.scp_wire.specs.scp_types.specs.declared.names.Hash.{Hash}
use Rattle.scp_fetch.specs.Wants.{has_conn, waiting_for}
use Rattle.scp_pending.specs.Queues.{QueueView}
use Rattle.scp_pending.specs.inside.Kept.{IsQuiet}
use Rattle.scp_pending.proofs.queue.give_up_all.Goals as goal

pub loop-i-preserved : goal.loop-i-preserved
loop-i-preserved c = went_on (resolved_in (is_given_up c.args.fetcher.now) (lost_by GaveUp)) c.loop-i.i c.args.queues.now.items c.loop-i.queues.items c.args.leaving.now.items c.loop-i.leaving.items c.give_up_on.new.leaving.items c.index_mut.result.now c.give_up_on.new.queue c.loop-i.invariant (omega (arith, c.len-i-end.ensures, c.loop-i-test.true)) c.index_mut.ensures.value c.in_ok-give_up_on.ensures.stays c.in_ok-give_up_on.ensures.leaves

pub returns-clause-stays : goal.returns-clause-stays
returns-clause-stays c = went_stays (resolved_in (is_given_up c.args.fetcher.now) (lost_by GaveUp)) c.loop-i.i c.args.queues.now.items c.loop-i.queues.items c.args.leaving.now.items c.loop-i.leaving.items c.loop-i.invariant (omega (arith, c.len-i-end.ensures, c.loop-i-test.false))

pub returns-clause-leaves : goal.returns-clause-leaves
returns-clause-leaves c = went_leaves (resolved_in (is_given_up c.args.fetcher.now) (lost_by GaveUp)) c.loop-i.i c.args.queues.now.items c.loop-i.queues.items c.args.leaving.now.items c.loop-i.leaving.items c.loop-i.invariant (omega (arith, c.len-i-end.ensures, c.loop-i-test.false))

pub give_up_on-requires : goal.give_up_on-requires
give_up_on-requires c = record { quiet = went_at (λ (q : QueueView). list_any (λ (hash : Hash). has_conn q.conn (waiting_for hash c.args.fetcher.now)) c.args.hashes.now ≡ false → IsQuiet (is_given_up c.args.fetcher.now) q) (resolved_in (is_given_up c.args.fetcher.now) (lost_by GaveUp)) c.loop-i.i c.args.queues.now.items c.loop-i.queues.items c.args.leaving.now.items c.loop-i.leaving.items c.index_mut.result.now c.loop-i.invariant (omega (arith, c.len-i-end.ensures, c.loop-i-test.true)) c.index_mut.ensures.value c.requires.quiet }
