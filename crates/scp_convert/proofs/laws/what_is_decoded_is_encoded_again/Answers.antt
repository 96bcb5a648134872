use Rattle.scp_convert.proofs.Back.{comes_back}
use Rattle.scp_convert.proofs.laws.what_is_decoded_is_encoded_again.Goals as goal

pub returns : goal.returns
returns c = comes_back
