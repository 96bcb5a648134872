use Rattle.std.proofs.Common.{refl, ap}
use Rattle.std.specs.Prelude.{Err}
use Rattle.scp_turn.specs.Watch.{notes}
use Rattle.scp_turn.specs.Kv.{Watched}
use Rattle.scp_live_log.specs.declared.kept.LogFault.{LogFault}
use Rattle.scp_live.proofs.Going.{heard_nothing}
use Rattle.scp_live.proofs.Living.{live_on}
use Rattle.scp_live.proofs.Replaying.{Comes, replays, event_fault, event_isnt_full, act_fault, no_event_said, not_played, is_played, plays_otherwise}
use Rattle.scp_live.proofs.entries.replay_entry.Goals as goal

pub returns-in-Err-clause-replayed : goal.returns-in-Err-clause-replayed
returns-in-Err-clause-replayed g c =
    let u = c.args.live.now in
    heard_nothing u.node (λ heard. Comes (Err c.in-Err.fault) c.args.place c.args.entry.now u heard u × Watched (notes g.W.Watch.notes_before g.W.Watch.notes_after) 1 c.args.watch.now u.node heard u.node c.args.watch.now)
    (no_event_said c.in-Err.fault c.args.place c.args.entry.now u (λ same. c.in-Err.ensures.unsaid (ap (λ (f : LogFault). Err f) same)) c.in-Err.ensures.only (event_isnt_full c.in-Err.fault c.args.place c.in-Err.ensures.only), (refl, refl))

pub returns-in-Err-clause-only : goal.returns-in-Err-clause-only
returns-in-Err-clause-only g c = event_fault c.in-Err.fault c.args.place c.in-Err.ensures.only

pub returns-in-Err-act_with-clause-only : goal.returns-in-Err-act_with-clause-only
returns-in-Err-act_with-clause-only g c = act_fault c.in-Err-act_with.fault c.args.live.now.node c.requires.live.runs c.in-Err-act_with.ensures.failed c.in-Err-act_with.ensures.only

pub returns-in-Err-act_with-clause-replayed : goal.returns-in-Err-act_with-clause-replayed
returns-in-Err-act_with-clause-replayed g c =
    not_played c.in-Err-act_with.fault c.args.place c.args.entry.now c.args.live.now c.act_with.new.self
    (λ a heard b. Watched (notes g.W.Watch.notes_before g.W.Watch.notes_after) 1 c.args.watch.now a heard b c.act_with.new.watch) _ c.in-Err-act_with.ensures.told

pub returns-then-eq-clause-replayed : goal.returns-then-eq-clause-replayed
returns-then-eq-clause-replayed g c =
    is_played c.args.place c.args.entry.now c.args.live.now c.act_with.new.self c.in-Ok-act_with.sent
    (λ a heard b. Watched (notes g.W.Watch.notes_before g.W.Watch.notes_after) 1 c.args.watch.now a heard b c.act_with.new.watch)
    (replays c.args.entry.now c.in-Ok.event c.args.live.now c.act_with.new.self _ _ c.in-Ok-act_with.sent.0 c.sent.result.0 c.eq.result c.in-Ok-act_with.sent
    (λ a heard b. Watched (notes g.W.Watch.notes_before g.W.Watch.notes_after) 1 c.args.watch.now a heard b c.act_with.new.watch)
    c.if-eq.true c.eq.ensures c.sent.ensures c.in-Ok.ensures.says c.in-Ok-act_with.ensures.names c.in-Ok-act_with.ensures.nodes c.in-Ok-act_with.ensures.told)

pub returns-then-eq-clause-live : goal.returns-then-eq-clause-live
returns-then-eq-clause-live g c = live_on c.args.live.now.node c.act_with.new.self.node _ c.requires.live c.act_with.ensures.told c.in-Ok-act_with.ensures.runs

pub returns-clause-replayed : goal.returns-clause-replayed
returns-clause-replayed g c =
    plays_otherwise c.args.place c.args.entry.now c.in-Ok.event c.args.live.now c.act_with.new.self _ _ c.in-Ok-act_with.sent.0 c.sent.result.0 c.eq.result c.in-Ok-act_with.sent
    (λ a heard b. Watched (notes g.W.Watch.notes_before g.W.Watch.notes_after) 1 c.args.watch.now a heard b c.act_with.new.watch)
    c.if-eq.false c.eq.ensures c.sent.ensures c.in-Ok.ensures.says c.in-Ok-act_with.ensures.told
