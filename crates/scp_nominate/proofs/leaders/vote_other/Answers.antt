use Rattle.std.proofs.Common.{◌≡◌, inl, inr, rules}
use Rattle.std.proofs.lemmas.Result.{on_ok_weaker}
use Rattle.scp_nominate.specs.Heard.{heard}
use Rattle.scp_nominate.proofs.leaders.vote_other.Goals as goal

pub returns-clause-only : goal.returns-clause-only
returns-clause-only g c =
    let other : c.args.leader.now ≡ (heard c.args.board.now).me → ⊥ = λ e. (search rules) in
    on_ok_weaker c.vote_leader.result (λ only v has. elim (only v has) [ inl old ↦ inl old | inr new ↦ inr (other, new) ]) c.vote_leader.ensures.only

pub returns-clause-exact : goal.returns-clause-exact
returns-clause-exact g c =
    let other : c.args.leader.now ≡ (heard c.args.board.now).me → ⊥ = λ e. (search rules) in
    on_ok_weaker c.vote_leader.result (λ exact. inr (other, exact)) c.vote_leader.ensures.exact
