use Rattle.std.proofs.Common.{◌↔◌, IsTrue, subst}
use Rattle.scp_ballot_rules.specs.scp_quorum.specs.NodeSet.{is_in}
use Rattle.scp_ballot_rules.specs.scp_quorum.specs.QuorumTree.{QuorumTree}
use Rattle.scp_ballot_rules.specs.scp_quorum.specs.Satisfies.{Blocks}
use Rattle.scp_ballot_rules.specs.Told.{ballots_on}
use Rattle.scp_ballot.proofs.Aheads.{ahead_by, nobody_ahead}
use Rattle.scp_ballot.proofs.raise.are_ahead.Goals as goal

pub returns-clause-exact : goal.returns-clause-exact
returns-clause-exact c =
    let nodes = is_in c.in_ok-nodes.nodes in
    ahead_by (ballots_on c.args.board.now) c.args.n nodes c.blocked-yes.result c.in_ok-nodes.ensures
    (subst (λ (q : QuorumTree). IsTrue c.blocked-yes.result ↔ Blocks nodes q) c.local_set-set.ensures.value c.blocked-yes.ensures)

pub returns-clause-someone : goal.returns-clause-someone
returns-clause-someone c passed nobody =
    let nodes = is_in c.in_ok-nodes.nodes in
    let exact = ahead_by (ballots_on c.args.board.now) c.args.n nodes c.blocked-yes.result c.in_ok-nodes.ensures
    (subst (λ (q : QuorumTree). IsTrue c.blocked-yes.result ↔ Blocks nodes q) c.local_set-set.ensures.value c.blocked-yes.ensures) in
    nobody_ahead (ballots_on c.args.board.now) c.args.n c.local_set-set.ensures.sane.in_range nobody (exact.0 passed)

pub returns-clause-nobody : goal.returns-clause-nobody
returns-clause-nobody c m nobody = nobody_ahead (ballots_on c.args.board.now) m c.local_set-set.ensures.sane.in_range nobody
