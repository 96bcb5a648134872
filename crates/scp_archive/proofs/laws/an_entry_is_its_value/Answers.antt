use Rattle.scp_archive.proofs.Values.{same_entry}
use Rattle.scp_archive.proofs.laws.an_entry_is_its_value.Goals as goal

pub returns : goal.returns
returns c = same_entry c.a_quorum_set_is_its_value.ensures.set c.an_envelope_is_its_value.ensures.envelope
