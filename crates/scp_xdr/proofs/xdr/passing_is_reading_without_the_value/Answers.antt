use Rattle.scp_xdr.proofs.Passes.{left_is, passes_whole}
use Rattle.scp_xdr.proofs.xdr.passing_is_reading_without_the_value.Goals as goal

pub returns-clause-value : goal.returns-clause-value
returns-clause-value c = left_is

pub returns-clause-whole : goal.returns-clause-whole
returns-clause-whole c = passes_whole
