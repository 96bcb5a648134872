use Rattle.std.proofs.Common.{◌∙◌, ap, arith, sym}
use Rattle.std.proofs.lemmas.Option.{slice_get_past}
use Rattle.scp_account.specs.Arrived.{arrived_json}
use Rattle.scp_account.proofs.arrived.arrived_value.Goals as goal

pub returns-in-None : goal.returns-in-None
returns-in-None c = c.not_kept.ensures ∙ sym (ap arrived_json (slice_get_past c.args.came.now c.args.link (omega (arith, c.in-None.ensures.lookup))))
