use Rattle.scp_live_config.proofs.Forms.{one_form}
use Rattle.scp_live_config.proofs.laws.one_form_has_one_meaning.Goals as goal

pub returns : goal.returns
returns c = one_form c.no_spelling_begins_another.ensures c.a_quorum_set_is_its_value.ensures.set
