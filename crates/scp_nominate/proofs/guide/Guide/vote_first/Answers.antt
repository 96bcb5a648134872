use Rattle.std.proofs.Common.{◌≡◌, List, refl, sym, subst, inl, inr, [], Contains, rules}
use Rattle.scp_nominate.proofs.Growing.{votes_trans, tried_stays}
use Rattle.scp_nominate.proofs.Suggesting.{none_of}
use Rattle.scp_vote.specs.scp_types.specs.declared.names.NodeId.{NodeId}
use Rattle.scp_nominate.specs.Heard.{heard}
use Rattle.scp_driver.specs.Driver.{IsFull}
use Rattle.scp_nominate.specs.inside.Values.{items}
use Rattle.scp_nominate.specs.InTurn.{InTurn}
use Rattle.scp_nominate.specs.Voting.{VotesAfter, VotesOwn}
use Rattle.scp_nominate.proofs.guide.Guide.vote_first.Goals as goal

pub returns-clause-voting : goal.returns-clause-voting
returns-clause-voting g c = record { votes = votes_trans c.args.lists.now.votes c.vote_own.new.votes c.vote_leaders.new.votes c.in_ok-vote_own.ensures.more c.in_ok-vote_leaders.ensures.more; accepted = refl; candidates = refl }

pub returns-clause-voted : goal.returns-clause-voted
returns-clause-voted g c none = record {
  proposed = λ leads v e. tried_stays c.vote_own.new.votes c.vote_leaders.new.votes v c.in_ok-vote_leaders.ensures.more (c.in_ok-vote_own.ensures.tried (subst (λ n. Contains c.args.self.now.leaders.items n) (sym c.me_of.ensures) leads) v e);
  led = λ node other leads v f names. c.in_ok-vote_leaders.ensures.tried node (subst (λ ns. Contains ns node) (sym c.as_slice-leaders.ensures.value) leads) other v f names;
}

pub returns-clause-only : goal.returns-clause-only
returns-clause-only g c v has =
    let none : c.args.lists.now.candidates.values.items ≡ [] = none_of c.args.lists.now.candidates.values.items (λ lt. (search rules)) in
    elim (c.in_ok-vote_leaders.ensures.only v has) [
      | inl had ↦ elim (c.in_ok-vote_own.ensures.only v had) [
        | inl old ↦ inl old
        | inr own ↦ inr (inr (none, inl (subst (λ n. Contains c.args.self.now.leaders.items n) c.me_of.ensures own.0, own.1)))
      ]
      | inr led ↦ inr (inr (none, inr (led.0, subst (λ ns. Contains ns led.0) c.as_slice-leaders.ensures.value led.1, led.2)))
    ]

pub returns-clause-exact : goal.returns-clause-exact
returns-clause-exact g c =
    let none : c.args.lists.now.candidates.values.items ≡ [] = none_of c.args.lists.now.candidates.values.items (λ lt. (search rules)) in
    inl (
      none,
      record {
        proposed = items c.vote_own.new.votes;
        own = subst (λ (n : NodeId). VotesOwn (Contains c.args.self.now.leaders.items n) c.args.self.now.proposal (items c.args.lists.now.votes) (items c.vote_own.new.votes)) c.me_of.ensures c.in_ok-vote_own.ensures.exact;
        leaders = c.args.self.now.leaders.items;
        lead = record { ascend = c.requires.ascending; all = λ v. (λ h. h, λ h. h) };
        others = subst (λ (ns : List NodeId). InTurn (λ node s t. VotesAfter (IsFull (g.D.Driver.says.level c.args.self.now.driver) c.args.self.now.slot.0) (g.D.Driver.says.extracted c.args.self.now.driver c.args.self.now.slot.0) (heard c.args.board.now) node s t) ns (items c.vote_own.new.votes) (items c.vote_leaders.new.votes)) c.as_slice-leaders.ensures.value c.in_ok-vote_leaders.ensures.exact;
      },
      refl,
    )
