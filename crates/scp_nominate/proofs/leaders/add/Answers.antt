use Rattle.std.proofs.Common.{ℕ, List, subst}
use Rattle.std.proofs.lemmas.Result.{on_ok_weaker}
use Rattle.scp_nominate.specs.inside.Values.{Adds}
use Rattle.scp_nominate.proofs.Growing.{added_only}
use Rattle.scp_nominate.proofs.leaders.add.Goals as goal

pub returns-clause-only : goal.returns-clause-only
returns-clause-only c = on_ok_weaker c.insert.result (λ a. added_only c.args.set.now c.insert.new.self c.args.value.now (subst (λ (w : List ℕ). Adds c.args.set.now c.insert.new.self w) c.in_ok-copy.ensures.same a)) c.insert.ensures.added
