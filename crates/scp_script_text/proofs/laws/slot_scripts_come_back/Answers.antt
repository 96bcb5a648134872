use Rattle.scp_script_text.proofs.SlotBack.{come_back}
use Rattle.scp_script_text.proofs.laws.slot_scripts_come_back.Goals as goal

pub returns : goal.returns
returns c = come_back
