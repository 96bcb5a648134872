use Rattle.scp_nominate.specs.scp_quorum.specs.Quorum.{set_of}
use Rattle.scp_nominate.specs.scp_vote.specs.declared.claim.StatementKind.TheVariants.{Balloting}
use Rattle.scp_ballot.specs.scp_ballot_rules.specs.Told.{ballots_on}
use Rattle.scp_slot.proofs.Sets.{by_found}
use Rattle.scp_slot.proofs.quorum.has_quorum_at.Goals as goal

pub returns-clause-exact : goal.returns-clause-exact
returns-clause-exact c =
    by_found (ballots_on c.args.board.now) c.args.counter (set_of c.in_ok-sets.sets) c.me-me.result c.in_ok-found.found c.is_some.result c.in_ok-sets.ensures (c.me-me.ensures.me Balloting) c.is_some.ensures c.in_ok-found.ensures.found c.in_ok-found.ensures.none
