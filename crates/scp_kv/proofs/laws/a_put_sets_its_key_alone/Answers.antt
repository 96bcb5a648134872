use Rattle.scp_kv.proofs.Maps.{get-insert_same, get-insert_other}
use Rattle.scp_kv.proofs.laws.a_put_sets_its_key_alone.Goals as goal

pub returns-clause-its_key : goal.returns-clause-its_key
returns-clause-its_key c = get-insert_same

pub returns-clause-others : goal.returns-clause-others
returns-clause-others c = get-insert_other
