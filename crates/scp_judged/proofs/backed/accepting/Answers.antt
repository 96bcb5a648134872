use Rattle.std.proofs.Common.{List, map, take, subst, sym, arith, rules}
use Rattle.scp_ledger.specs.scp_quorum.specs.Quorum.{set_of}
use Rattle.scp_ledger.specs.Journal.{Heard}
use Rattle.scp_judged.specs.Verdicts.{heard_of, heard_by}
use Rattle.scp_judged.specs.inside.Backed.{AreAccepting}
use Rattle.scp_judged.proofs.Backing.{accepting_none, accepting_more}
use Rattle.scp_judged.proofs.Saying.{taken_more, taken_all}
use Rattle.scp_judged.proofs.backed.accepting.Goals as goal

pub loop-said-init : goal.loop-said-init
loop-said-init c = accepting_none c.args.counter c.args.value.now (set_of c.new-sets.result) (λ v. search rules)

pub loop-said-preserved : goal.loop-said-preserved
loop-said-preserved c =
    let xs = c.args.counting.now in
    let i = c.loop-said.said-index in
    let x = c.said-item.result in
    subst (λ (l : List Heard). AreAccepting (heard_by l) c.args.counter c.args.value.now (set_of c.weigh.new.sets)) (sym (taken_more xs i x (omega arith) c.said-item.is))
    (accepting_more (map heard_of (take i xs)) (heard_of x) c.args.counter c.args.value.now (set_of c.loop-said.sets) (set_of c.weigh.new.sets) c.loop-said.invariant c.in_ok-weigh.ensures.weighed)

pub returns-clause-accepting : goal.returns-clause-accepting
returns-clause-accepting c =
    let xs = c.args.counting.now in
    subst (λ (l : List Heard). AreAccepting (heard_by l) c.args.counter c.args.value.now (set_of c.loop-said.sets)) (taken_all xs c.loop-said.said-index (omega arith)) c.loop-said.invariant
