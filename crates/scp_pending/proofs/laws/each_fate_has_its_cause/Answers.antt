use Rattle.scp_pending.proofs.Passing.{all_have_causes}
use Rattle.scp_pending.proofs.laws.each_fate_has_its_cause.Goals as goal

pub returns : goal.returns
returns c = record { causes = all_have_causes }
