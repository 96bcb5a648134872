use Rattle.scp_judged.proofs.Judging.{counted_push, kept_push}
use Rattle.scp_judged.proofs.messages.count.Goals as goal

pub returns-clause-counts : goal.returns-clause-counts
returns-clause-counts c = counted_push c.args.counting.now.items _ c.in_ok-said.said c.args.envelope.now.statement c.args.set.now.value c.in_ok-push.ensures.items c.in_ok-said.ensures.said

pub returns-clause-keeps : goal.returns-clause-keeps
returns-clause-keeps c = kept_push c.args.newest.now c.put.new.self c.args.counting.now.items _ c.in_ok-said.said c.args.envelope.now.statement c.in_ok-statement.statement c.args.set.now.value c.requires c.in_ok-put.ensures.put c.in_ok-statement.ensures.same c.in_ok-push.ensures.items c.in_ok-said.ensures.said
