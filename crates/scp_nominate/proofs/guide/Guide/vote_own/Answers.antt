use Rattle.std.proofs.Common.{◌∙◌, ap, subst, List, inl, inr, Some, Contains, rules}
use Rattle.scp_vote.specs.scp_types.specs.declared.names.NodeId.{NodeId}
use Rattle.scp_nominate.specs.inside.Values.{items}
use Rattle.scp_nominate.proofs.Leading.{tried_some}
use Rattle.scp_nominate.proofs.Turns.{votes_some}
use Rattle.scp_nominate.proofs.guide.Guide.vote_own.Goals as goal

pub returns-clause-only : goal.returns-clause-only
returns-clause-only g c v has =
    let leads : Contains c.args.self.now.leaders.items c.args.me = subst (λ (ns : List NodeId). Contains ns c.args.me) c.as_slice.ensures.value (c.has_node.ensures.0 (search rules)) in
    elim (c.in_ok-vote.ensures.only v has) [ inl old ↦ inl old | inr e ↦ inr (leads, c.in-Some.is ∙ ap Some e) ]

pub returns-clause-exact : goal.returns-clause-exact
returns-clause-exact g c =
    let leads : Contains c.args.self.now.leaders.items c.args.me = subst (λ (ns : List NodeId). Contains ns c.args.me) c.as_slice.ensures.value (c.has_node.ensures.0 (search rules)) in
    inl (leads, votes_some c.args.self.now.proposal c.in-Some.value (items c.args.votes.now) (items c.vote.new.votes) c.in-Some.is c.in_ok-vote.ensures.exact)

pub returns-clause-tried : goal.returns-clause-tried
returns-clause-tried g c leads = tried_some c.args.self.now.proposal c.vote.new.votes c.in-Some.value c.in-Some.is c.in_ok-vote.ensures.tried
