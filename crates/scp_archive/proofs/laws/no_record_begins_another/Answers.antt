use Rattle.scp_archive.proofs.Apart.{records_apart, nothing_has_no_record}
use Rattle.scp_archive.proofs.laws.no_record_begins_another.Goals as goal

pub returns-clause-apart : goal.returns-clause-apart
returns-clause-apart c = records_apart

pub returns-clause-nothing : goal.returns-clause-nothing
returns-clause-nothing c = nothing_has_no_record
