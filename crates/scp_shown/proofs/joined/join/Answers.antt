use Rattle.std.proofs.Common.{List, map, take, refl, sym, subst, arith}
use Rattle.scp_history.specs.scp_ledger.specs.Journal.{Heard}
use Rattle.scp_history.specs.scp_judged.specs.Verdicts.{heard_of}
use Rattle.scp_history.specs.scp_judged.proofs.Saying.{taken_more, taken_all}
use Rattle.scp_shown.specs.Joined.{Joins}
use Rattle.scp_shown.proofs.Joining.{joins_more}
use Rattle.scp_shown.proofs.joined.join.Goals as goal

pub loop-said-init : goal.loop-said-init
loop-said-init c = refl

pub loop-said-preserved : goal.loop-said-preserved
loop-said-preserved c =
    let xs = c.args.counting.now in
    let i = c.loop-said.said-index in
    let x = c.said-item.result in
    let first = map heard_of c.args.joined.now.items in
    subst (λ (l : List Heard). Joins first l (map heard_of c.join_one.new.joined.items)) (sym (taken_more xs i x (omega arith) c.said-item.is))
    (joins_more first (map heard_of (take i xs)) (map heard_of c.loop-said.joined.items) (heard_of x) (map heard_of c.join_one.new.joined.items) c.loop-said.invariant c.in_ok-join_one.ensures.joins)

pub returns-clause-joins : goal.returns-clause-joins
returns-clause-joins c =
    subst (λ (l : List Heard). Joins (map heard_of c.args.joined.now.items) l (map heard_of c.loop-said.joined.items)) (taken_all c.args.counting.now c.loop-said.said-index (omega arith)) c.loop-said.invariant
