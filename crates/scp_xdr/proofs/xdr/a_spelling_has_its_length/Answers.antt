use Rattle.scp_xdr.proofs.Lengths.{length_is}
use Rattle.scp_xdr.proofs.xdr.a_spelling_has_its_length.Goals as goal

pub returns : goal.returns
returns c = length_is
