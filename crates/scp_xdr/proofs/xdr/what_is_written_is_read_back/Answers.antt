use Rattle.scp_xdr.proofs.Laws.{read_back, one_value}
use Rattle.scp_xdr.proofs.xdr.what_is_written_is_read_back.Goals as goal

pub returns-clause-read_back : goal.returns-clause-read_back
returns-clause-read_back c = read_back

pub returns-clause-one_value : goal.returns-clause-one_value
returns-clause-one_value c = one_value
