use Rattle.std.proofs.Common.{string_bytes}
use Rattle.scp_live_process.proofs.Torn.{none_torn, torn_told}
use Rattle.scp_live_process.proofs.telling.write_torn.Goals as goal

pub returns-then-bytes-eq0 : goal.returns-then-bytes-eq0
returns-then-bytes-eq0 c = none_torn (string_bytes c.args.text.now) c.args.bytes c.args.events c.if-bytes-eq0.true

pub returns : goal.returns
returns c = torn_told c.writeln.result (string_bytes c.args.text.now) (string_bytes c.writeln.new.self) c.args.bytes c.args.events c.if-bytes-eq0.false c.writeln.ensures.bytes
