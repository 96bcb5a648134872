use Rattle.scp_script_text.proofs.Back.{never_refused}
use Rattle.scp_script_text.proofs.laws.no_text_is_refused.Goals as goal

pub returns : goal.returns
returns c = never_refused
