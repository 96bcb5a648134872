-- Whoever accepts a claim supports it.
use Rattle.std.proofs.Common.{inl, inr}
use Rattle.scp_envelope.specs.declared.statement.Pledges.{Pledges}
use Rattle.scp_vote.specs.declared.claim.Claim.{Claim}
use Rattle.scp_vote.specs.declared.claim.Claim.TheVariants.{Prepared, Committed, Nominated}
use Rattle.scp_vote.specs.declared.claim.Support.TheVariants.{VotesOrAccepts, Accepts}
use Rattle.scp_vote.specs.Claims.{Stands}

pub accepts_supports : (c : Claim) (p : Pledges) → Stands Accepts c p → Stands VotesOrAccepts c p
accepts_supports (Prepared x) p accepts = inr accepts
accepts_supports (Committed low high v) p accepts = λ n above below. inr (accepts n above below)
accepts_supports (Nominated v) p accepts = inr accepts
