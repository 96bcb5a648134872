use Rattle.scp_kv.proofs.Maps.{get-remove_same, get-remove_other}
use Rattle.scp_kv.proofs.laws.a_del_takes_its_key_alone.Goals as goal

pub returns-clause-its_key : goal.returns-clause-its_key
returns-clause-its_key c = get-remove_same

pub returns-clause-others : goal.returns-clause-others
returns-clause-others c = get-remove_other
