use Rattle.scp_audit.proofs.Oneness.{one_audit}
use Rattle.scp_audit.proofs.laws.an_archive_has_one_audit.Goals as goal

pub returns : goal.returns
returns c = one_audit c.a_stream_is_one_list_of_records.ensures c.an_entry_is_its_value.ensures c.messages_have_one_list_of_verdicts.ensures
