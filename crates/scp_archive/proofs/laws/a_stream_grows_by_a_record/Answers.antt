use Rattle.scp_archive.proofs.Apart.{stream_begins, stream_grows}
use Rattle.scp_archive.proofs.laws.a_stream_grows_by_a_record.Goals as goal

pub returns-clause-begins : goal.returns-clause-begins
returns-clause-begins c = stream_begins

pub returns-clause-grows : goal.returns-clause-grows
returns-clause-grows c = stream_grows
