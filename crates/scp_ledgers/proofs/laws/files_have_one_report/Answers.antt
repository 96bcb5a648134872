use Rattle.scp_ledgers.proofs.Oneness.{one_report}
use Rattle.scp_ledgers.proofs.laws.files_have_one_report.Goals as goal

pub returns : goal.returns
returns c = one_report c.an_archive_has_one_audit.ensures c.entries_have_one_list_of_lines.ensures
