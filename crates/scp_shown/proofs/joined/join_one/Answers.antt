use Rattle.std.proofs.Common.{◌≡◌, List, [], ◌∷◌, ◌++◌, map, subst}
use Rattle.std.specs.Prelude.{◌↔◌, IsTrue}
use Rattle.scp_history.specs.scp_judged.specs.Verdicts.{heard_of}
use Rattle.scp_history.specs.scp_judged.proofs.Judging.{counted_push}
use Rattle.scp_history.specs.scp_judged.specs.declared.verdict.Said.{Said}
use Rattle.scp_shown.specs.Joined.{IsNextBallot}
use Rattle.scp_shown.proofs.Joining.{joins_none, joins_next}
use Rattle.scp_shown.proofs.joined.join_one.Goals as goal

pub returns-then-not-is_next-clause-joins : goal.returns-then-not-is_next-clause-joins
returns-then-not-is_next-clause-joins c =
    let said = heard_of c.args.said.now in
    joins_none (map heard_of c.args.joined.now.items) said c.is_next.result (subst (λ (l : List Said). IsTrue c.is_next.result ↔ IsNextBallot (map heard_of l) said) c.deref.ensures.value c.is_next.ensures) c.if-not-is_next.true

pub returns-clause-joins : goal.returns-clause-joins
returns-clause-joins c =
    let hs = map heard_of c.args.joined.now.items in
    let said = c.args.said.now in
    let added : map heard_of c.push.new.self.items ≡ hs ++ heard_of said ∷ [] = counted_push c.args.joined.now.items c.push.new.self.items c.in_ok-shared.shared said.envelope.statement said.set.value c.in_ok-push.ensures.items c.in_ok-shared.ensures.same in
    joins_next hs (map heard_of c.push.new.self.items) (heard_of said) c.is_next.result (subst (λ (l : List Said). IsTrue c.is_next.result ↔ IsNextBallot (map heard_of l) (heard_of said)) c.deref.ensures.value c.is_next.ensures) c.if-not-is_next.false added
