-- Boards on which each node has the same statement and set.
use Rattle.std.proofs.Common.{◌≡◌, Bool, Option, IsSomeAnd, sym, ◌∙◌, ap, subst, inl, inr}
use Rattle.scp_quorum.specs.scp_types.specs.declared.names.NodeId.{NodeId}
use Rattle.scp_quorum.specs.QuorumTree.{QuorumTree}
use Rattle.scp_quorum.specs.Satisfies.{Satisfies, Blocks}
use Rattle.scp_envelope.specs.declared.statement.Pledges.{Pledges}
use Rattle.scp_envelope.specs.declared.statement.Pledges.TheVariants.{Prepare as Preparing, Confirm as Confirming, Externalize as Externalizing, Nominate as Nominating}
use Rattle.scp_vote.specs.declared.claim.Claim.{Claim}
use Rattle.scp_vote.specs.declared.claim.Claim.TheVariants.{Prepared, Committed, Nominated}
use Rattle.scp_vote.specs.declared.claim.Support.TheVariants.{VotesOrAccepts, Accepts}
use Rattle.scp_vote.specs.Claims.{Stands}
use Rattle.scp_vote.specs.Board.{Seen, HasQuorumOf, Accepted, Confirmed, AllHave}
use Rattle.scp_vote.specs.inside.Chain.{IsSame}
use Rattle.scp_vote.specs.Licence.{Follows, high_end, VotesWell, AcceptsWell, ExternalizesWell}

pub same_sym : (a b : Seen) → IsSame a b → IsSame b a
same_sym a b s = record { me = sym s.me; local = sym s.local; statement = λ v. sym (s.statement v); counted = λ v. sym (s.counted v) }

module _ (a b : Seen) (s : IsSame a b) where
  all_same : (P : Pledges → Type 0) (nodes : NodeId → Bool) → AllHave a P nodes → AllHave b P nodes
  all_same P nodes all v has = let Q : Option Pledges → Type 0 = λ o. IsSomeAnd o P in subst Q (sym (s.statement v)) (all v has)

  quorum_same : (P : Pledges → Type 0) → HasQuorumOf a P → HasQuorumOf b P
  quorum_same P h = (
    h.0,
    record {
      has = ap h.0 s.me ∙ h.1.has;
      satisfied = λ v has. let Q : Option QuorumTree → Type 0 = λ o. IsSomeAnd o (Satisfies h.0) in subst Q (sym (s.counted v)) (h.1.satisfied v has);
    },
    all_same P h.0 h.2,
  )

  pub accepted_same : (c : Claim) → Accepted a c → Accepted b c
  accepted_same c (inl h) = inl (quorum_same (Stands VotesOrAccepts c) h)
  accepted_same c (inr h) = inr (h.0, all_same (Stands Accepts c) h.0 h.1, let Q : QuorumTree → Type 0 = λ q. Blocks h.0 q in subst Q (sym s.local) h.2)

  pub confirmed_same : (c : Claim) → Confirmed a c → Confirmed b c
  confirmed_same c h = quorum_same (Stands Accepts c) h

  votes_same : (p : Option Pledges) (q : Pledges) → VotesWell a p q → VotesWell b p q
  votes_same p (Preparing q) h = λ voted. let k = h voted in (k.0, elim k.1 [ inl c ↦ inl (confirmed_same (Prepared (high_end q)) c) | inr kept ↦ inr kept ])
  votes_same p (Confirming q) h = tt
  votes_same p (Externalizing q) h = tt
  votes_same p (Nominating q) h = tt

  accepts_same : (p : Option Pledges) (q : Pledges) → AcceptsWell a p q → AcceptsWell b p q
  accepts_same p (Preparing q) h = tt
  accepts_same p (Confirming q) (inl h) = inl h
  accepts_same p (Confirming q) (inr h) = inr (accepted_same (Committed q.n_commit q.n_high q.ballot.value) h)
  accepts_same p (Externalizing q) h = tt
  accepts_same p (Nominating q) h = tt

  externalizes_same : (p : Option Pledges) (q : Pledges) → ExternalizesWell a p q → ExternalizesWell b p q
  externalizes_same p (Preparing q) h = tt
  externalizes_same p (Confirming q) h = tt
  externalizes_same p (Externalizing q) (inl h) = inl h
  externalizes_same p (Externalizing q) (inr h) = inr (confirmed_same (Committed q.commit.counter q.n_high q.commit.value) h)
  externalizes_same p (Nominating q) h = tt

  pub follows_same : (p : Option Pledges) (q : Pledges) → Follows a p q → Follows b p q
  follows_same p q f = record {
    values = λ v h. elim (f.values v h) [ inl had ↦ inl had | inr now ↦ inr (accepted_same (Nominated v) now) ];
    prepared = λ x h. elim (f.prepared x h) [ inl had ↦ inl had | inr now ↦ inr (accepted_same (Prepared x) now) ];
    votes = votes_same p q f.votes;
    accepts = accepts_same p q f.accepts;
    externalizes = externalizes_same p q f.externalizes;
  }
