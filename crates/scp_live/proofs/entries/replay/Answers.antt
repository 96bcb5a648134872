use Rattle.std.proofs.Common.{[], arith, refl}
use Rattle.std.specs.Prelude.{Ok}
use Rattle.scp_turn.specs.Watch.{notes}
use Rattle.scp_turn.specs.Kv.{Watched}
use Rattle.scp_live.specs.Replays.{IsReplayed, AreReplayed}
use Rattle.scp_live.proofs.Going.{heard_nothing, heard_as}
use Rattle.scp_live.proofs.Replaying.{Comes, one_replayed, refused_at, all_replayed, play_fault}
use Rattle.scp_live.proofs.entries.replay.Goals as goal

pub loop-place-init : goal.loop-place-init
loop-place-init g c =
    let u = c.args.live.now in
    record {
      replayed = heard_nothing u.node (λ heard. AreReplayed [] u heard u × Watched (notes g.W.Watch.notes_before g.W.Watch.notes_after) 1 c.args.watch.now u.node heard u.node c.args.watch.now) ((refl, refl), (refl, refl));
      live = c.requires.live;
    }

pub returns-in-Err-clause-replayed : goal.returns-in-Err-clause-replayed
returns-in-Err-clause-replayed g c =
    refused_at (notes g.W.Watch.notes_before g.W.Watch.notes_after) c.in-Err.fault c.args.entries.now c.loop-place.place c.index-entries-place.result c.args.live.now c.loop-place.live c.replay_entry.new.live c.args.watch.now c.loop-place.watch c.replay_entry.new.watch
    (omega arith) c.index-entries-place.is c.in-Err.ensures.only c.loop-place.invariant.live.runs c.loop-place.invariant.replayed c.in-Err.ensures.replayed

pub returns-clause-replayed : goal.returns-clause-replayed
returns-clause-replayed g c =
    all_replayed (notes g.W.Watch.notes_before g.W.Watch.notes_after) c.args.entries.now c.loop-place.place c.args.live.now c.loop-place.live c.args.watch.now c.loop-place.watch (omega arith) c.loop-place.invariant.live.runs c.loop-place.invariant.replayed

pub returns-in-Err-clause-only : goal.returns-in-Err-clause-only
returns-in-Err-clause-only g c = play_fault c.in-Err.fault c.loop-place.place c.in-Err.ensures.only

pub loop-place-preserved : goal.loop-place-preserved
loop-place-preserved g c = record {
  replayed = one_replayed (notes g.W.Watch.notes_before g.W.Watch.notes_after) c.args.entries.now c.loop-place.place c.index-entries-place.result c.args.live.now c.loop-place.live c.replay_entry.new.live c.args.watch.now c.loop-place.watch c.replay_entry.new.watch
      (omega arith) c.index-entries-place.is c.loop-place.invariant.replayed
      (heard_as c.loop-place.live.node c.replay_entry.new.live.node
      (λ heard. Comes (Ok tt) c.loop-place.place c.index-entries-place.result c.loop-place.live heard c.replay_entry.new.live × Watched (notes g.W.Watch.notes_before g.W.Watch.notes_after) 1 c.loop-place.watch c.loop-place.live.node heard c.replay_entry.new.live.node c.replay_entry.new.watch)
      (λ heard. IsReplayed c.index-entries-place.result c.loop-place.live heard c.replay_entry.new.live × Watched (notes g.W.Watch.notes_before g.W.Watch.notes_after) 1 c.loop-place.watch c.loop-place.live.node heard c.replay_entry.new.live.node c.replay_entry.new.watch)
      (λ heard p. (p.0.0, p.1)) c.in-Ok.ensures.replayed);
  live = c.in-Ok.ensures.live;
}
