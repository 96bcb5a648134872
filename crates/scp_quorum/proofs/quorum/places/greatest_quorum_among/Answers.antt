use Rattle.std.proofs.Common.{sym, ◌∙◌}
use Rattle.std.proofs.lemmas.Bool.{OnTrue_from, OnFalse_from, OnFalse_at}
use Rattle.scp_quorum.specs.Places.{marked, shared_set}
use Rattle.scp_quorum.proofs.Marking.{greatest_among, none_among}
use Rattle.scp_quorum.proofs.quorum.places.greatest_quorum_among.Goals as goal

pub loop-preserved : goal.loop-preserved
loop-preserved g c = record {
  within = λ v has. c.loop.invariant.within v (c.in_ok-prune.ensures.within v has);
  kept = λ us closed inside. c.in_ok-prune.ensures.kept us closed (c.loop.invariant.kept us closed inside);
  len = c.prune.ensures.len ∙ c.loop.invariant.len;
}

pub returns-clause-found : goal.returns-clause-found
returns-clause-found g c =
    let place = g.P.Places.place c.args.places.now in
    let sets = shared_set place c.args.seats.now c.args.sets.now in
    OnTrue_from c.has.result _ (λ e.
    greatest_among sets (marked place c.args.marks.now) (marked place c.prune.new.marks) c.args.me.now
    (λ v has. c.loop.invariant.within v (c.in_ok-prune.ensures.within v has))
    (λ us closed inside. c.in_ok-prune.ensures.kept us closed (c.loop.invariant.kept us closed inside))
    (OnFalse_at c.if-branch.false c.in_ok-prune.ensures.settled) (sym c.has.ensures ∙ e))

pub returns-clause-none : goal.returns-clause-none
returns-clause-none g c =
    let place = g.P.Places.place c.args.places.now in
    let sets = shared_set place c.args.seats.now c.args.sets.now in
    OnFalse_from c.has.result _ (λ e.
    none_among sets (marked place c.args.marks.now) (marked place c.prune.new.marks) c.args.me.now
    (λ v has. c.loop.invariant.within v (c.in_ok-prune.ensures.within v has))
    (λ us closed inside. c.in_ok-prune.ensures.kept us closed (c.loop.invariant.kept us closed inside)) (sym c.has.ensures ∙ e))
