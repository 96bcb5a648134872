use Rattle.scp_test_folder.proofs.Contents.{elapses_to}
use Rattle.scp_test_folder.proofs.memory.MemoryFolder.put.Goals as goal

pub returns-clause-time : goal.returns-clause-time
returns-clause-time c = elapses_to c.args.self.now.past.items _ c.args.self.now.content c.in_ok-before.before c.args.next c.in_ok-before.ensures c.in_ok-push.ensures.items
