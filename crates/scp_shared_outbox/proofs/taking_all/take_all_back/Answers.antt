use Rattle.std.proofs.Common.{◌≡◌, ◌+◌, subst, length, ℕ, arith}
use Rattle.scp_shared_outbox.specs.inside.Links.{ArePairs, StandLast, TookFrom}
use Rattle.scp_shared_outbox.proofs.Rows.{all_left, all_came, row_many, row_stands, left_less, came_more}
use Rattle.scp_shared_outbox.proofs.taking_all.take_all_back.Goals as goal

pub loop-row-init : goal.loop-row-init
loop-row-init g c =
    let outlets = c.args.outlets.items in
    let markers = c.args.markers.items in
    let takers = c.args.takers.items in
    record {
      left = all_left c.args.count outlets markers takers c.requires.all;
      rest = all_came c.args.count (length markers) outlets takers (omega (arith, c.requires.all.markers_are.nodes));
    }

pub take_row-requires-clause-few : goal.take_row-requires-clause-few
take_row-requires-clause-few g c =
    let outlets = c.loop-row.outlets.items in
    let markers = c.loop-row.markers.items in
    let takers = c.loop-row.takers.items in
    omega (arith, row_many c.args.count outlets outlets markers c.pop.new.self.items c.in-Some.row c.in-Some.ensures.items takers c.pop-in-Some.new.self.items c.in-Some-pop.ends c.in-Some-pop.ensures.items c.loop-row.invariant.left)

pub take_row-requires-clause-last : goal.take_row-requires-clause-last
take_row-requires-clause-last g c =
    let outlets = c.loop-row.outlets.items in
    let markers = c.loop-row.markers.items in
    let front = c.pop.new.self.items in
    let takers = c.loop-row.takers.items in
    let at : length front + 1 ≡ c.len.result + 1 = omega (arith, c.pop.new.self.ok.0) in
    subst (λ (n : ℕ). StandLast n outlets c.in-Some.row.items c.in-Some-pop.ends.items) at
    (row_stands c.args.count outlets outlets markers front c.in-Some.row c.in-Some.ensures.items takers c.pop-in-Some.new.self.items c.in-Some-pop.ends c.in-Some-pop.ensures.items c.loop-row.invariant.left)

pub loop-row-preserved : goal.loop-row-preserved
loop-row-preserved g c =
    let count = c.args.count in
    let outlets = c.loop-row.outlets.items in
    let news = c.take_row.new.outlets.items in
    let markers = c.loop-row.markers.items in
    let front = c.pop.new.self.items in
    let row = c.in-Some.row in
    let ms = c.in-Some.ensures.items in
    let takers = c.loop-row.takers.items in
    let front2 = c.pop-in-Some.new.self.items in
    let ends = c.in-Some-pop.ends in
    let ts = c.in-Some-pop.ensures.items in
    let left = c.loop-row.invariant.left in
    let at : c.len.result + 1 ≡ length front + 1 = omega (arith, c.pop.new.self.ok.0) in
    let took = subst (λ (n : ℕ). ArePairs (TookFrom n ends.items) outlets news) at c.in_ok-take_row.ensures.took in
    record {
      left = left_less count outlets news markers front row ms takers front2 ends ts left took;
      rest = λ came. c.loop-row.invariant.rest (came_more count outlets news markers front row ms takers front2 ends ts left took came);
    }
