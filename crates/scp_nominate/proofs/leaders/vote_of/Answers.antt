use Rattle.std.proofs.Common.{◌≡◌, ◌∙◌, sym, ap, inl, inr, Some, None, rules}
use Rattle.std.proofs.lemmas.Result.{on_ok_weaker}
use Rattle.scp_driver.specs.Driver.{IsFull}
use Rattle.scp_nominate.specs.inside.Values.{items}
use Rattle.scp_nominate.proofs.Turns.{votes_some, votes_none}
use Rattle.scp_nominate.proofs.leaders.vote_of.Goals as goal

pub returns-then-eq-clause-only : goal.returns-then-eq-clause-only
returns-then-eq-clause-only g c =
    let full : IsFull (g.D.Driver.says.level c.args.driver.now) c.args.slot.0 c.args.value.now = search rules in
    on_ok_weaker c.vote.result (λ only v has. elim (only v has) [ inl old ↦ inl old | inr e ↦ inr (inl (full, e)) ]) c.vote.ensures.only

pub returns-in-Some-clause-only : goal.returns-in-Some-clause-only
returns-in-Some-clause-only g c =
    let not : IsFull (g.D.Driver.says.level c.args.driver.now) c.args.slot.0 c.args.value.now → ⊥ = λ full. (search rules) in
    let found : g.D.Driver.says.extracted c.args.driver.now c.args.slot.0 c.args.value.now ≡ Some c.in-Some.found = sym c.in_ok-found.ensures.extracted ∙ c.in-Some.is in
    on_ok_weaker c.vote-in-Some.result (λ only v has. elim (only v has) [ inl old ↦ inl old | inr e ↦ inr (inr (not, found ∙ ap Some e)) ]) c.vote-in-Some.ensures.only

pub returns-then-eq-clause-exact : goal.returns-then-eq-clause-exact
returns-then-eq-clause-exact g c =
    let full : IsFull (g.D.Driver.says.level c.args.driver.now) c.args.slot.0 c.args.value.now = search rules in
    on_ok_weaker c.vote.result (λ exact. inl (full, exact)) c.vote.ensures.exact

pub returns-in-Some-clause-exact : goal.returns-in-Some-clause-exact
returns-in-Some-clause-exact g c =
    let not : IsFull (g.D.Driver.says.level c.args.driver.now) c.args.slot.0 c.args.value.now → ⊥ = λ full. (search rules) in
    let found : g.D.Driver.says.extracted c.args.driver.now c.args.slot.0 c.args.value.now ≡ Some c.in-Some.found = sym c.in_ok-found.ensures.extracted ∙ c.in-Some.is in
    on_ok_weaker c.vote-in-Some.result (λ exact. inr (not, votes_some (g.D.Driver.says.extracted c.args.driver.now c.args.slot.0 c.args.value.now) c.in-Some.found (items c.args.votes.now) (items c.vote-in-Some.new.votes) found exact)) c.vote-in-Some.ensures.exact

pub returns-in-None-clause-exact : goal.returns-in-None-clause-exact
returns-in-None-clause-exact g c =
    let not : IsFull (g.D.Driver.says.level c.args.driver.now) c.args.slot.0 c.args.value.now → ⊥ = λ full. (search rules) in
    let found : g.D.Driver.says.extracted c.args.driver.now c.args.slot.0 c.args.value.now ≡ None = sym c.in_ok-found.ensures.extracted ∙ c.in-None.is in
    inr (not, votes_none (g.D.Driver.says.extracted c.args.driver.now c.args.slot.0 c.args.value.now) (items c.args.votes.now) found)
