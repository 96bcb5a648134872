use Rattle.scp_text.proofs.Leaves.{bytes_to}
use Rattle.scp_text.proofs.ValueTexts.{value_again}
use Rattle.scp_text.proofs.single.see_value.Goals as goal

pub returns : goal.returns
returns c = value_again c.args.bytes.now (bytes_to c.args.bytes.now c.see_bytes.ensures) c.requires
