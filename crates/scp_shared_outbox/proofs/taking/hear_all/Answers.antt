use Rattle.std.proofs.Common.{arith, ◌≡◌, List, [], ◌∷◌, ◌++◌, sym, ap, ◌∙◌, subst, append_assoc}
use Rattle.std.proofs.lemmas.List.{nil_from_length, append-nil}
use Rattle.crossbeam_queue.specs.Passes.{view}
use Rattle.scp_shared_outbox.specs.Turns.{put_by}
use Rattle.scp_shared_outbox.specs.Ends.{PutterView}
use Rattle.scp_shared_outbox.specs.inside.Passes.{HavePut}
use Rattle.scp_shared_outbox.proofs.Lists.{have_more, at_its_place}
use Rattle.scp_shared_outbox.proofs.taking.hear_all.Goals as goal

pub hear-requires-clause-one : goal.hear-requires-clause-one
hear-requires-clause-one c =
    let i = c.loop-putter.invariant in
    let all : c.args.putters.items ≡ c.loop-putter.yielded ++ c.in-Some.putter ∷ c.next.new.self.rest.items = i.all ∙ ap (λ (ps : List PutterView). c.loop-putter.yielded ++ ps) c.in-Some.ensures.steps.0 in
    (at_its_place c.args.pass.now.table_id c.args.putters.items c.loop-putter.yielded c.next.new.self.rest.items c.in-Some.putter c.requires.ones all).0 ∙ sym i.place.1

pub loop-putter-preserved : goal.loop-putter-preserved
loop-putter-preserved c =
    let i = c.loop-putter.invariant in let now = c.hear.ensures in
    let all : c.args.putters.items ≡ c.loop-putter.yielded ++ c.in-Some.putter ∷ c.next.new.self.rest.items = i.all ∙ ap (λ (ps : List PutterView). c.loop-putter.yielded ++ ps) c.in-Some.ensures.steps.0 in
    let its = at_its_place c.args.pass.now.table_id c.args.putters.items c.loop-putter.yielded c.next.new.self.rest.items c.in-Some.putter c.requires.ones all in record {
      place = (now.place.0, now.place.1 ∙ i.place.1);
      still = (now.still.0, now.still.1 ∙ i.still.1, now.still.2 ∙ i.still.2, now.still.3 ∙ i.still.3);
      all = all ∙ sym (append_assoc c.loop-putter.yielded (c.in-Some.putter ∷ []) c.next.new.self.rest.items);
      heard = have_more (view c.args.pass.now).turns c.loop-putter.yielded c.in-Some.putter i.heard its.1 (ap (put_by c.in-Some.putter.number) (sym i.still.1) ∙ now.heard);
    }

pub returns : goal.returns
returns c =
    let i = c.loop-putter.invariant in
    let none : c.loop-putter.putter-iterator.rest.items ≡ [] = nil_from_length c.loop-putter.putter-iterator.rest.items (omega (arith, c.loop-putter.putter-iterator.rest.ok, c.in-None.ensures.steps.0)) in
    let all : c.args.putters.items ≡ c.loop-putter.yielded = i.all ∙ ap (λ (ps : List PutterView). c.loop-putter.yielded ++ ps) none ∙ append-nil c.loop-putter.yielded in
    record { heard = subst (HavePut (view c.args.pass.now).turns) (sym all) i.heard }
