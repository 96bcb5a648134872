use Rattle.scp_gather.proofs.HearingTheirs.{read_is_theirs, first_is_theirs}
use Rattle.scp_gather.proofs.travel.what_is_read_is_the_senders_own.Goals as goal

pub returns : goal.returns
returns c = record { all = read_is_theirs c.what_is_spelt_is_read.ensures; first = first_is_theirs }
