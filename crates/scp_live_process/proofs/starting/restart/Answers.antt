use Rattle.std.proofs.Common.{◌≡◌, true, List, length, sym, subst, arith}
use Rattle.scp_stand_node.specs.scp_types.specs.declared.fault.Fault.TheVariants.{JournalFull}
use Rattle.scp_stand_node.specs.scp_turn.specs.Watch.{notes}
use Rattle.scp_stand_node.specs.scp_turn.specs.Episode.{finds_full}
use Rattle.scp_batches.specs.scp_live_log.specs.Log.{EntryView}
use Rattle.scp_batches.specs.scp_live_log.specs.declared.kept.LogFault.TheVariants.{Failed}
use Rattle.scp_live.specs.Replays.{AreReplayed}
use Rattle.scp_live_process.specs.Starting.{HasRead}
use Rattle.scp_live.proofs.Going.{found_behind, none_found}
use Rattle.scp_live_process.proofs.Going.{seen_nothing, seen_from, seen_then}
use Rattle.scp_live_process.proofs.Acts.{unfilled}
use Rattle.scp_live_process.proofs.Served.{stays}
use Rattle.scp_live_process.proofs.Started.{restarted}
use Rattle.scp_live_process.proofs.Refusing.{recover_fault, replay_fault, close_fault, stays_unread, stays_read, log_err_as, recover_not_full, log_unfilled, log_behind}
use Rattle.scp_live_process.proofs.starting.restart.Goals as goal

pub returns-in-Err-clause-restarted : goal.returns-in-Err-clause-restarted
returns-in-Err-clause-restarted g c =
    seen_nothing (notes g.V.Watch.notes_before g.V.Watch.notes_after) c.args.watch.now c.args.live.now.node _ (
      tt,
      recover_fault c.args.wanted g.L.EventLog.holds g.L.EventLog.may_leave g.L.EventLog.faults c.args.header.now c.args.kept.now c.recover.new.self c.args.live.now c.in-Err.fault c.in-Err.ensures.another c.in-Err.ensures.unbegun c.in-Err.ensures.count c.in-Err.ensures.damaged c.in-Err.ensures.moved c.in-Err.ensures.failed c.in-Err.ensures.hidden c.in-Err.ensures.only,
      (λ full. absurd (recover_not_full c.in-Err.fault c.in-Err.ensures.only (log_err_as c.in-Err.fault (Failed JournalFull) full)), λ found. absurd (none_found found)),
    )

pub returns-in-Err-clause-stays : goal.returns-in-Err-clause-stays
returns-in-Err-clause-stays g c = stays_unread g.L.EventLog.holds g.L.EventLog.may_leave g.L.EventLog.moment g.L.EventLog.left_since c.args.header.now c.args.kept.now c.recover.new.self g.met.L.EventLog.counts_now c.recover.ensures.any_moment

pub returns-in-Err-replay-clause-restarted : goal.returns-in-Err-replay-clause-restarted
returns-in-Err-replay-clause-restarted g c =
    let read : HasRead g.L.EventLog.holds g.L.EventLog.may_leave c.args.header.now c.in-Ok.found.entries.items c.args.kept.now c.recover.new.self = record { all = c.in-Ok.ensures.all; recovered = c.in-Ok.ensures.settled } in
    let seen = subst (λ (l : List EntryView). HasRead g.L.EventLog.holds g.L.EventLog.may_leave c.args.header.now l c.args.kept.now c.recover.new.self) (sym c.as_slice.ensures.value) read in
    seen_from (notes g.V.Watch.notes_before g.V.Watch.notes_after) c.args.watch.now c.replay.new.watch c.args.live.now.node c.replay.new.live.node _ _
    (λ heard p. (
      tt,
      replay_fault c.args.wanted g.L.EventLog.holds g.L.EventLog.may_leave g.L.EventLog.faults c.args.header.now c.args.kept.now c.recover.new.self c.args.live.now c.replay.new.live heard c.as_slice.result.now c.in-Err-replay.fault seen c.in-Ok.ensures.quiet p.1 p.2.0 c.in-Err-replay.ensures.only,
      (λ full. p.2.0 (log_err_as c.in-Err-replay.fault (Failed JournalFull) full), λ found. log_err_as c.in-Err-replay.fault (Failed JournalFull) (p.2.1 found)),
    ))
    c.in-Err-replay.ensures.replayed

pub returns-in-Err-replay-clause-stays : goal.returns-in-Err-replay-clause-stays
returns-in-Err-replay-clause-stays g c =
    let read : HasRead g.L.EventLog.holds g.L.EventLog.may_leave c.args.header.now c.in-Ok.found.entries.items c.args.kept.now c.recover.new.self = record { all = c.in-Ok.ensures.all; recovered = c.in-Ok.ensures.settled } in
    stays_read g.L.EventLog.holds g.L.EventLog.may_leave c.args.header.now c.args.kept.now c.recover.new.self c.recover.new.self c.in-Ok.found.entries.items read (stays g.L.EventLog.holds g.L.EventLog.may_leave c.recover.new.self)

pub returns-in-Err-close_links-clause-restarted : goal.returns-in-Err-close_links-clause-restarted
returns-in-Err-close_links-clause-restarted g c =
    let entries = c.in-Ok.found.entries.items in
    let read : HasRead g.L.EventLog.holds g.L.EventLog.may_leave c.args.header.now entries c.args.kept.now c.recover.new.self = record { all = c.in-Ok.ensures.all; recovered = c.in-Ok.ensures.settled } in
    let fault = c.in-Err-close_links.fault in
    let played = seen_from (notes g.V.Watch.notes_before g.V.Watch.notes_after) c.args.watch.now c.replay.new.watch c.args.live.now.node c.replay.new.live.node _
    (λ heard. AreReplayed c.as_slice.result.now c.args.live.now heard c.replay.new.live × (finds_full heard ≡ true → ⊥)) (λ heard p. (p.0, log_unfilled {T = Unit {0}} tt heard p.2)) c.in-Ok-replay.ensures.replayed in
    seen_then (notes g.V.Watch.notes_before g.V.Watch.notes_after) c.args.watch.now c.replay.new.watch c.close_links.new.watch c.args.live.now.node c.replay.new.live.node c.close_links.new.live.node _ _ _
    (λ x y p q. (
      tt,
      close_fault c.args.wanted g.L.EventLog.holds g.L.EventLog.may_leave g.L.EventLog.faults c.args.header.now c.args.kept.now c.recover.new.self c.close_links.new.kept c.args.live.now c.replay.new.live c.close_links.new.live x y entries fault read c.in-Ok.ensures.quiet
          (subst (λ (l : List EntryView). AreReplayed l c.args.live.now x c.replay.new.live) c.as_slice.ensures.value p.0)
          c.in-Err-close_links.ensures.device c.in-Err-close_links.ensures.hidden q.1.0 c.in-Err-close_links.ensures.unsaid c.in-Err-close_links.ensures.still c.in-Err-close_links.ensures.only,
      log_behind fault x y p.1 q.1,
    ))
    played c.in-Err-close_links.ensures.closed

pub returns-in-Err-close_links-clause-stays : goal.returns-in-Err-close_links-clause-stays
returns-in-Err-close_links-clause-stays g c =
    let read : HasRead g.L.EventLog.holds g.L.EventLog.may_leave c.args.header.now c.in-Ok.found.entries.items c.args.kept.now c.recover.new.self = record { all = c.in-Ok.ensures.all; recovered = c.in-Ok.ensures.settled } in
    stays_read g.L.EventLog.holds g.L.EventLog.may_leave c.args.header.now c.args.kept.now c.recover.new.self c.close_links.new.kept c.in-Ok.found.entries.items read c.close_links.ensures.stays

pub returns-clause-restarted : goal.returns-clause-restarted
returns-clause-restarted g c =
    let entries = c.in-Ok.found.entries.items in
    let read : HasRead g.L.EventLog.holds g.L.EventLog.may_leave c.args.header.now entries c.args.kept.now c.recover.new.self = record { all = c.in-Ok.ensures.all; recovered = c.in-Ok.ensures.settled } in
    let count : c.len-behind.result ≡ length entries = omega (arith, c.len-behind.ensures, c.in-Ok.found.entries.ok) in
    let played = seen_from (notes g.V.Watch.notes_before g.V.Watch.notes_after) c.args.watch.now c.replay.new.watch c.args.live.now.node c.replay.new.live.node _
    (λ heard. AreReplayed c.as_slice.result.now c.args.live.now heard c.replay.new.live × (finds_full heard ≡ true → ⊥)) (λ heard p. (p.0, log_unfilled {T = Unit {0}} tt heard p.2)) c.in-Ok-replay.ensures.replayed in
    let counts : c.len.result ≡ length c.in-Ok-close_links.closes.items = omega (arith, c.len.ensures, c.in-Ok-close_links.closes.ok) in
    seen_then (notes g.V.Watch.notes_before g.V.Watch.notes_after) c.args.watch.now c.replay.new.watch c.close_links.new.watch c.args.live.now.node c.replay.new.live.node c.close_links.new.live.node _ _ _
    (λ x y p q. (
      restarted g.L.EventLog.holds g.L.EventLog.may_leave c.args.header.now c.args.kept.now c.recover.new.self c.close_links.new.kept c.args.live.now c.replay.new.live c.close_links.new.live x y entries c.in-Ok-close_links.closes.items c.len-behind.result c.len.result c.in-Ok.found.torn
          (subst (λ (l : List EntryView). AreReplayed l c.args.live.now x c.replay.new.live) c.as_slice.ensures.value p.0) q.0 count counts read c.in-Ok.ensures.wanted c.in-Ok.ensures.begun c.in-Ok.ensures.cut c.in-Ok-close_links.ensures.kept,
      tt,
      (λ full. absurd cc, λ found. absurd (unfilled c.in-Ok-close_links.closes y q.1 (found_behind x y p.1 found))),
    ))
    played c.in-Ok-close_links.ensures.closed

pub returns-clause-stays : goal.returns-clause-stays
returns-clause-stays g c =
    let read : HasRead g.L.EventLog.holds g.L.EventLog.may_leave c.args.header.now c.in-Ok.found.entries.items c.args.kept.now c.recover.new.self = record { all = c.in-Ok.ensures.all; recovered = c.in-Ok.ensures.settled } in
    stays_read g.L.EventLog.holds g.L.EventLog.may_leave c.args.header.now c.args.kept.now c.recover.new.self c.close_links.new.kept c.in-Ok.found.entries.items read c.close_links.ensures.stays
