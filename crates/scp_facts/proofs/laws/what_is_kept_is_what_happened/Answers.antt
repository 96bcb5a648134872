use Rattle.scp_facts.proofs.KeptSteps.{kept_is_what_happened, step_is_kept}
use Rattle.scp_facts.proofs.laws.what_is_kept_is_what_happened.Goals as goal

pub returns : goal.returns
returns c = record { step = step_is_kept; steps = kept_is_what_happened }
