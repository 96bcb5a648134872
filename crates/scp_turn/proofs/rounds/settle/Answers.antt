use Rattle.std.proofs.Common.{◌≡◌, ◌+◌, inl, inr, refl, subst, arith, ⊎_elim}
use Rattle.scp_turn.specs.Watch.{notes}
use Rattle.scp_turn.specs.Heard.{Nodes}
use Rattle.scp_turn.specs.Rounds.{AllRun, HasFailed}
use Rattle.scp_turn.proofs.Settling.{none_yet, round_more, breaks, rests_still, rests_not}
use Rattle.scp_turn.proofs.rounds.settle.Goals as goal

pub loop-init : goal.loop-init
loop-init g c = record {
  heard = none_yet (notes g.W.Watch.notes_before g.W.Watch.notes_after) c.args.watch.now c.args.nodes.now.items c.args.driven.now;
  run = inl refl;
}

pub loop-preserved : goal.loop-preserved
loop-preserved g c = record {
  heard = round_more (notes g.W.Watch.notes_before g.W.Watch.notes_after) c.args.watch.now c.loop.watch c.round-moved.new.watch c.args.nodes.now.items c.loop.nodes.items c.round-moved.new.nodes.items c.args.driven.now c.loop.counter c.round-moved.result c.if-not-moved.false c.loop.invariant.heard c.round-moved.ensures;
  run = inr (subst (λ (nodes : Nodes). AllRun nodes) c.as_slice.ensures.value (c.failed.ensures.none c.in_default.is));
}

pub returns-in-Some : goal.returns-in-Some
returns-in-Some g c =
    breaks (notes g.W.Watch.notes_before g.W.Watch.notes_after) c.args.watch.now c.loop.watch c.round-moved.new.watch c.args.nodes.now.items c.loop.nodes.items c.round-moved.new.nodes.items c.args.driven.now c.loop.counter c.in-Some.number c.round-moved.result (omega arith) c.loop.invariant.run c.loop.invariant.heard c.round-moved.ensures
    (subst (λ (nodes : Nodes). HasFailed nodes c.in-Some.number) c.as_slice.ensures.value c.in-Some.ensures.failed)

pub returns-then-not-moved : goal.returns-then-not-moved
returns-then-not-moved g c = (
  rests_still (notes g.W.Watch.notes_before g.W.Watch.notes_after) c.args.watch.now c.loop.watch c.round-moved.new.watch c.args.nodes.now.items c.loop.nodes.items c.round-moved.new.nodes.items c.args.driven.now c.loop.counter c.round-moved.result (omega arith) c.if-not-moved.true c.loop.invariant.heard c.round-moved.ensures,
  subst (λ (nodes : Nodes). AllRun nodes) c.as_slice.ensures.value (c.failed.ensures.none c.in_default.is),
)

pub returns : goal.returns
returns g c = (
  rests_not (notes g.W.Watch.notes_before g.W.Watch.notes_after) c.args.watch.now c.loop.watch c.args.nodes.now.items c.loop.nodes.items c.args.driven.now c.loop.counter (omega arith) c.loop.invariant.heard,
  ⊎_elim (λ (none : c.loop.counter ≡ 0). absurd (omega arith)) (λ (run : AllRun c.loop.nodes.items). run) c.loop.invariant.run,
)
