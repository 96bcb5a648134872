use Rattle.std.proofs.Common.{string_bytes}
use Rattle.scp_live.proofs.Adding.{says_one}
use Rattle.scp_live.proofs.again.say.Goals as goal

pub returns-clause-said : goal.returns-clause-said
returns-clause-said c = says_one c.args.name.now c.in_ok-bytes.bytes.items (string_bytes c.args.text.now) (string_bytes c.write_again.new.text) c.args.message.now c.in_ok-bytes.ensures.spells (rw c.as_slice.ensures.value at c.in_ok-write_again.ensures)
