use Rattle.std.proofs.Common.{◌<◌, length, arith}
use Rattle.scp_quorum.specs.Places.{marked}
use Rattle.scp_vote.specs.inside.Seats.{place_in}
use Rattle.scp_vote.proofs.Seating.{found_counted, none_counted}
use Rattle.scp_vote.proofs.Single.{one_set_greatest}
use Rattle.scp_vote.proofs.statements.Side.has_quorum.Goals as goal

pub returns-then-len-lt2-clause-found : goal.returns-then-len-lt2-clause-found
returns-then-len-lt2-clause-found c =
    let less = c.if-len-lt2.true in
    let len = c.len.ensures in
    let few : length c.args.self.now.table.now.sets.items < 2 = omega (arith, less, len) in
    let both = c.if-not-may_have_quorum.ensures.both in
    one_set_greatest c.args.self.now c.args.marks.now c.requires few both.0 both.1

pub returns-clause-found : goal.returns-clause-found
returns-clause-found c =
    let place = place_in c.args.self.now.table.now.entries in
    found_counted c.args.self.now c.deref.result.now c.deref-2.result.now (marked place c.args.marks.now) (marked place c.greatest_quorum_among.new.marks) c.greatest_quorum_among.result
    c.deref.ensures.value c.deref-2.ensures.value c.greatest_quorum_among.ensures.found

pub returns-clause-none : goal.returns-clause-none
returns-clause-none c =
    let place = place_in c.args.self.now.table.now.entries in
    none_counted c.args.self.now c.deref.result.now c.deref-2.result.now (marked place c.args.marks.now) c.greatest_quorum_among.result
    c.deref.ensures.value c.deref-2.ensures.value c.greatest_quorum_among.ensures.none
