use Rattle.std.proofs.Common.{◌++◌, codes, string_bytes}
use Rattle.std.specs.Fmt.{decimal}
use Rattle.scp_notices.proofs.Joining.{joined}
use Rattle.scp_notices.proofs.text.write_lost.Goals as goal

pub returns : goal.returns
returns c = joined c.write_pair.result (string_bytes c.args.text.now) (string_bytes c.push_str.new.self) (string_bytes c.write_pair.new.text) (codes "overwritten ") (decimal c.args.node ++ codes " " ++ decimal c.args.peer) c.in_ok-push_str.ensures.bytes c.write_pair.ensures
