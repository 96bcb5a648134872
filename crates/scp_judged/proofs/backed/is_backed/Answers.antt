use Rattle.std.proofs.Common.{◌≡◌, List, true, false, map, take, refl, sym, subst, arith}
use Rattle.std.specs.List.{AllByRecursion}
use Rattle.std.proofs.lemmas.Bool.{OnTrue_at, OnFalse_at}
use Rattle.scp_ledger.specs.Journal.{Heard}
use Rattle.scp_judged.specs.Verdicts.{heard_of, heard_by}
use Rattle.scp_judged.specs.inside.Backed.{HasNoneAt}
use Rattle.scp_judged.proofs.Backing.{none_more, unbacked}
use Rattle.scp_judged.proofs.Saying.{taken_more, taken_all}
use Rattle.scp_judged.proofs.backed.is_backed.Goals as goal

pub loop-said-preserved : goal.loop-said-preserved
loop-said-preserved c =
    let xs = c.args.counting.now in
    let i = c.loop-said.said-index in
    let x = c.said-item.result in
    subst (λ (l : List Heard). AllByRecursion (HasNoneAt (heard_by (map heard_of xs)) c.args.value.now c.args.node) l) (sym (taken_more xs i x (omega arith) c.said-item.is))
    (none_more (HasNoneAt (heard_by (map heard_of xs)) c.args.value.now c.args.node) (map heard_of (take i xs)) (heard_of x) c.loop-said.invariant (OnFalse_at c.if-backs.false c.in_ok-backs.ensures.none))

pub returns-then-backs-clause-exact : goal.returns-then-backs-clause-exact
returns-then-backs-clause-exact c = (λ _. OnTrue_at c.if-backs.true c.in_ok-backs.ensures.backed, λ _. refl)

pub returns-clause-exact : goal.returns-clause-exact
returns-clause-exact c =
    let xs = c.args.counting.now in (
      λ t. (let bad : false ≡ true = t in absurd cc),
      λ b. absurd (
          unbacked (map heard_of xs) c.args.value.now c.args.node
          (subst (λ (l : List Heard). AllByRecursion (HasNoneAt (heard_by (map heard_of xs)) c.args.value.now c.args.node) l) (taken_all xs c.loop-said.said-index (omega arith)) c.loop-said.invariant) b),
    )
