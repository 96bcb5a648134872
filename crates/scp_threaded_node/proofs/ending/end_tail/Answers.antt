use Rattle.std.proofs.Common.{sym, subst}
use Rattle.std.specs.Result.{result_err}
use Rattle.scp_threaded_node.specs.declared.node.Tail.{Tail}
use Rattle.scp_threaded_node.specs.Faults.{carried}
use Rattle.scp_threaded_node.specs.inside.Ending.{HasTailFault}
use Rattle.scp_threaded_node.proofs.Told.{driven_end}
use Rattle.scp_threaded_node.proofs.ending.end_tail.Goals as goal

pub returns-in-Host-clause-why : goal.returns-in-Host-clause-why
returns-in-Host-clause-why g c = subst (λ (t : Tail). HasTailFault t c.args.stood (result_err c.end_driven.result)) (sym c.in-Host.is) (driven_end c.in-Host.tail c.args.stood c.end_driven.result c.end_driven.ensures.same c.end_driven.ensures.gone)

pub returns-in-Courier-clause-why : goal.returns-in-Courier-clause-why
returns-in-Courier-clause-why g c = subst (λ (t : Tail). HasTailFault t c.args.stood (result_err c.carried.result)) (sym c.in-Courier.is) (carried c.join.result, c.join.ensures, c.carried.ensures.why)
