use Rattle.scp_text.proofs.Leaves.{bytes_to}
use Rattle.scp_text.proofs.MessageItems.{text_again}
use Rattle.scp_text.proofs.message.see_text.Goals as goal

pub returns : goal.returns
returns c = text_again c.args.message.now c.args.bytes.now (bytes_to c.args.bytes.now c.see_bytes.ensures) c.requires
