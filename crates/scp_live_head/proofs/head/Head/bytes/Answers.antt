use Rattle.std.proofs.Common.{rules}
use Rattle.scp_live_head.proofs.Heads.{head_made}
use Rattle.scp_live_head.proofs.head.Head.bytes.Goals as goal

pub returns : goal.returns
returns c =
    head_made c.args.self.now c.in_ok-bytes.bytes.items c.add_base.new.bytes.items c.add_statements.new.bytes.items c.in_ok-sum.sum.items c.extend_from_slice.new.self.items
    (search rules) (search rules) (search rules) (search rules) (search rules)
