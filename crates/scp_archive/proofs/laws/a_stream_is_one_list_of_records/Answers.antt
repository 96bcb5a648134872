use Rattle.scp_archive.proofs.Apart.{stream_one_list}
use Rattle.scp_archive.proofs.laws.a_stream_is_one_list_of_records.Goals as goal

pub returns : goal.returns
returns c = stream_one_list
