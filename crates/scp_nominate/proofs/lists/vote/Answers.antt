use Rattle.std.proofs.Common.{◌<◌, ℕ, List, length, subst, rules}
use Rattle.std.proofs.lemmas.Result.{on_ok_weaker}
use Rattle.scp_nominate.specs.inside.Values.{Adds}
use Rattle.scp_nominate.proofs.Growing.{added_only}
use Rattle.scp_nominate.proofs.Turns.{votes_added}
use Rattle.scp_nominate.proofs.lists.vote.Goals as goal

pub returns-clause-only : goal.returns-clause-only
returns-clause-only c = on_ok_weaker c.insert.result (λ a. added_only c.args.votes.now c.insert.new.self c.args.value.now (subst (λ (w : List ℕ). Adds c.args.votes.now c.insert.new.self w) c.in_ok-copy.ensures.same a)) c.insert.ensures.added

pub returns-clause-exact : goal.returns-clause-exact
returns-clause-exact c =
    let room : length c.args.votes.now.values.items < 7 = search rules in
    on_ok_weaker c.insert.result (λ a. votes_added c.args.votes.now c.insert.new.self c.args.value.now room (subst (λ (w : List ℕ). Adds c.args.votes.now c.insert.new.self w) c.in_ok-copy.ensures.same a)) c.insert.ensures.added
