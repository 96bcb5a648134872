use Rattle.scp_apply.proofs.Taking.{applies_pass, applier_keeps_up}
use Rattle.scp_apply.proofs.laws.what_holds_of_an_applier_holds_with_one_thing_more.Goals as goal

pub returns : goal.returns
returns c = record { passes = applies_pass; keeps_up = applier_keeps_up c.a_beginning_keeps_the_window.ensures.kept }
