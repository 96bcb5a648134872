use Rattle.std.proofs.Common.{◌≡◌, ℕ, List, [], inl, inr, Some, None, refl, subst, rules, Contains}
use Rattle.std.proofs.lemmas.Result.{on_ok_weaker}
use Rattle.scp_vote.specs.declared.claim.Claim.TheVariants.{Nominated}
use Rattle.scp_vote.specs.declared.claim.Support.TheVariants.{VotesOrAccepts}
use Rattle.scp_vote.specs.Claims.{Stands}
use Rattle.scp_nominate.specs.Heard.{heard}
use Rattle.scp_nominate.proofs.Options.{some_and}
use Rattle.scp_nominate.proofs.Naming.{named_by, nobody_named}
use Rattle.scp_nominate.proofs.leaders.vote_leader.Goals as goal

pub returns-in_ok-values-in-Some-clause-only : goal.returns-in_ok-values-in-Some-clause-only
returns-in_ok-values-in-Some-clause-only g c =
    let says : (heard c.args.board.now).statement c.args.leader.now ≡ Some c.in-Some.envelope.now.statement.pledges = search rules in
    on_ok_weaker c.vote_all.result (λ only v has. elim (only v has) [
      | inl old ↦ inl old
      | inr new ↦ inr (
        new.0,
        some_and (Stands VotesOrAccepts (Nominated new.0)) ((heard c.args.board.now).statement c.args.leader.now) c.in-Some.envelope.now.statement.pledges says
            (rw c.get.ensures at c.in_ok-values-in-Some.ensures.only new.0 (subst (λ (vs : List (List ℕ)). Contains vs new.0) c.as_slice.ensures new.1)),
        new.2,
      )
    ]) c.vote_all.ensures.only

pub returns-in_ok-values-in-Some-clause-exact : goal.returns-in_ok-values-in-Some-clause-exact
returns-in_ok-values-in-Some-clause-exact g c =
    let says : (heard c.args.board.now).statement c.args.leader.now ≡ Some c.in-Some.envelope.now.statement.pledges = search rules in
    let names = named_by (heard c.args.board.now) c.args.leader.now c.in-Some.envelope.now.statement.pledges c.in_ok-values-in-Some.values c.as_slice.result.now says c.as_slice.ensures (rw c.get.ensures at c.in_ok-values-in-Some.ensures.all) (rw c.get.ensures at c.in_ok-values-in-Some.ensures.only) in
    on_ok_weaker c.vote_all.result (λ exact. (c.as_slice.result.now, names, exact)) c.vote_all.ensures.exact

pub returns-in-None-clause-exact : goal.returns-in-None-clause-exact
returns-in-None-clause-exact g c =
    let says : (heard c.args.board.now).statement c.args.leader.now ≡ None = search rules in
    ([], nobody_named (heard c.args.board.now) c.args.leader.now says, refl)
