use Rattle.scp_shown.specs.inside.Placing.{placed}
use Rattle.scp_shown.proofs.Pairing.{one_pair, no_pair}
use Rattle.scp_shown.proofs.contradictions.add_pair.Goals as goal

pub returns-then-not-contradict : goal.returns-then-not-contradict
returns-then-not-contradict c = no_pair c.args.ledger (placed c.args.first.now, placed c.args.last.now) c.contradict.result c.args.lines.now.items c.contradict.ensures c.if-not-contradict.true

pub returns : goal.returns
returns c = one_pair c.args.ledger (placed c.args.first.now, placed c.args.last.now) c.contradict.result c.args.lines.now.items c.push.new.self.items c.contradict.ensures c.if-not-contradict.false c.in_ok-push.ensures.items
