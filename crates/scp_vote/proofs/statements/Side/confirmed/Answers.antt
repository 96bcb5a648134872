use Rattle.scp_quorum.specs.Places.{marked}
use Rattle.scp_vote.specs.Claims.{Stands}
use Rattle.scp_vote.specs.declared.claim.Support.TheVariants.{Accepts}
use Rattle.scp_vote.specs.inside.Seats.{place_in}
use Rattle.scp_vote.proofs.Seating.{marks_exactly}
use Rattle.scp_vote.proofs.statements.Side.confirmed.Goals as goal

pub returns-clause-exact : goal.returns-clause-exact
returns-clause-exact c =
    let us = marked (place_in c.args.self.now.table.now.entries) c.has_quorum.new.marks in
    marks_exactly c.args.self.now (Stands Accepts c.args.claim.now) c.in_ok-accepting.accepting.items c.deref_mut.result.now c.deref_mut.ensures.value c.in_ok-accepting.ensures us c.has_quorum.result c.has_quorum.ensures.found c.has_quorum.ensures.none
