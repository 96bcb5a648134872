use Rattle.std.proofs.Common.{sym, subst, ℕ, arith}
use Rattle.std.specs.Prelude.{slice_set}
use Rattle.scp_shared_outbox.specs.inside.Links.{ArePairs, StandLast, TookFrom}
use Rattle.scp_shared_outbox.proofs.ListsOfAll.{more_length}
use Rattle.scp_shared_outbox.proofs.Back.{place_is, found_last, last_within, last_stands, stand_less, took_more}
use Rattle.scp_shared_outbox.proofs.taking_all.take_row.Goals as goal

pub index_mut-requires : goal.index_mut-requires
index_mut-requires g c =
    let to = c.args.to in
    let outlets = c.loop-marker.outlets.items in
    let markers = c.loop-marker.markers.items in
    let front2 = c.pop.new.self.items in
    let m = c.in-Some.marker in
    let takers = c.loop-marker.takers.items in
    let front = c.pop-in-Some.new.self.items in
    let t = c.in-Some-pop.taker in
    let ms = c.in-Some.ensures.items in
    let ts = c.in-Some-pop.ensures.items in
    let stand = c.loop-marker.invariant.last in
    omega (arith, place_is to outlets takers front t ts markers front2 m ms stand c.len.result c.from.result (omega arith) (omega arith), last_within to outlets takers front t ts markers front2 m ms stand)

pub take_link-requires-clause-last : goal.take_link-requires-clause-last
take_link-requires-clause-last g c =
    let to = c.args.to in
    let outlets = c.loop-marker.outlets.items in
    let o = c.index_mut.result.now in
    let markers = c.loop-marker.markers.items in
    let front2 = c.pop.new.self.items in
    let m = c.in-Some.marker in
    let takers = c.loop-marker.takers.items in
    let front = c.pop-in-Some.new.self.items in
    let t = c.in-Some-pop.taker in
    let ms = c.in-Some.ensures.items in
    let ts = c.in-Some-pop.ensures.items in
    let stand = c.loop-marker.invariant.last in
    let place = place_is to outlets takers front t ts markers front2 m ms stand c.len.result c.from.result (omega arith) (omega arith) in
    let here = found_last to outlets takers front t ts markers front2 m ms stand o c.from.result place c.index_mut.ensures.value in
    (last_stands to outlets takers front t ts markers front2 m ms stand o here).0

pub take_link-requires-clause-taker : goal.take_link-requires-clause-taker
take_link-requires-clause-taker g c =
    let to = c.args.to in
    let outlets = c.loop-marker.outlets.items in
    let o = c.index_mut.result.now in
    let markers = c.loop-marker.markers.items in
    let front2 = c.pop.new.self.items in
    let m = c.in-Some.marker in
    let takers = c.loop-marker.takers.items in
    let front = c.pop-in-Some.new.self.items in
    let t = c.in-Some-pop.taker in
    let ms = c.in-Some.ensures.items in
    let ts = c.in-Some-pop.ensures.items in
    let stand = c.loop-marker.invariant.last in
    let place = place_is to outlets takers front t ts markers front2 m ms stand c.len.result c.from.result (omega arith) (omega arith) in
    let here = found_last to outlets takers front t ts markers front2 m ms stand o c.from.result place c.index_mut.ensures.value in
    (last_stands to outlets takers front t ts markers front2 m ms stand o here).1

pub loop-marker-preserved : goal.loop-marker-preserved
loop-marker-preserved g c =
    let to = c.args.to in
    let outlets = c.loop-marker.outlets.items in
    let o = c.index_mut.result.now in
    let o2 = c.take_link.new.outlets in
    let markers = c.loop-marker.markers.items in
    let front2 = c.pop.new.self.items in
    let m = c.in-Some.marker in
    let takers = c.loop-marker.takers.items in
    let front = c.pop-in-Some.new.self.items in
    let t = c.in-Some-pop.taker in
    let ms = c.in-Some.ensures.items in
    let ts = c.in-Some-pop.ensures.items in
    let stand = c.loop-marker.invariant.last in
    let place = place_is to outlets takers front t ts markers front2 m ms stand c.len.result c.from.result (omega arith) (omega arith) in
    let here = found_last to outlets takers front t ts markers front2 m ms stand o c.from.result place c.index_mut.ensures.value in
    record {
      few = omega (arith, more_length front2 markers m ms, c.loop-marker.invariant.few);
      last = subst (λ (n : ℕ). StandLast to (slice_set outlets n o2) front2 front) (sym place) (stand_less to outlets takers front t ts markers front2 m ms stand o2);
      rest = λ final took. c.loop-marker.invariant.rest final
          (took_more to outlets takers front t ts o o2 c.requires.number here c.in_ok-take_link.ensures final (subst (λ (n : ℕ). ArePairs (TookFrom to front) (slice_set outlets n o2) final) place took));
    }
