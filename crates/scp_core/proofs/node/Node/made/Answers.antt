use Rattle.std.specs.Prelude.{◌+◌, []}
use Rattle.scp_core.specs.Theorem.{LedgerTheoremFrom}
use Rattle.scp_core.specs.inside.Starting.{IsNew}
use Rattle.scp_core.proofs.Starting.{new_holds, if_ok, states_none, faults_are}
use Rattle.scp_core.proofs.node.Node.made.Goals as goal

pub returns-clause-theorem : goal.returns-clause-theorem
returns-clause-theorem g c =
    let first = c.args.start.before + 1 in
    let base = c.args.start.base.items in
    if_ok (IsNew g.A.Driver.says first base) (LedgerTheoremFrom g.A.Driver.says first base []) c.with_set.result (λ v n. new_holds g.A.Driver.says first base c.what_holds_of_a_ledger_holds_with_one_thing_more.ensures.journals v n) c.with_set.ensures.new

pub returns-clause-no_state : goal.returns-clause-no_state
returns-clause-no_state g c = states_none _ c.with_set.result c.with_set.ensures.refused

pub returns-clause-only : goal.returns-clause-only
returns-clause-only g c = faults_are c.with_set.result c.with_set.ensures.faults
