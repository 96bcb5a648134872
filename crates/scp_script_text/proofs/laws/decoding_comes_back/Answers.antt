use Rattle.scp_script_text.proofs.Back.{comes_back}
use Rattle.scp_script_text.proofs.laws.decoding_comes_back.Goals as goal

pub returns : goal.returns
returns c = comes_back
