use Rattle.std.specs.BTreeSet.{btree_set_len}
use Rattle.scp_ledger.proofs.Windows.{IsAdvancing}
use Rattle.scp_ledger.proofs.window.Window.advance.Given as goal

abbrev pub invariant-loop-self : goal.invariant-loop-self
invariant-loop-self l = IsAdvancing l.initial.self l.self

abbrev pub decreases-loop-self : goal.decreases-loop-self
decreases-loop-self l = btree_set_len l.self.ahead
