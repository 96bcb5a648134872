use Rattle.scp_ballot_rules.specs.scp_vote.specs.declared.claim.StatementKind.TheVariants.{Nomination}
use Rattle.scp_ballot_rules.specs.scp_vote.specs.Seen.{seen}
use Rattle.scp_stand_needs.proofs.Naming.{IsNaming}
use Rattle.scp_stand_needs.proofs.nominated.nominated.Given as goal

-- of the nodes so far
abbrev pub invariant-loop-node : goal.invariant-loop-node
invariant-loop-node l = IsNaming (seen Nomination l.board) l.values l.node-iterator
