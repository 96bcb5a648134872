use Rattle.std.proofs.Common.{◌≡◌, ◌+◌, [], false}
use Rattle.scp_again.specs.scp_driver.specs.Driver.{IsBase}
use Rattle.scp_again.specs.scp_driver.specs.Kv.{kv_says}
use Rattle.scp_again.specs.scp_kv.specs.Saved.{bytes_of, state_of}
use Rattle.scp_again.specs.scp_core.specs.Kv.{NodeView}
use Rattle.scp_again.specs.scp_core.specs.Theorem.{LedgerTheoremFrom}
use Rattle.scp_live.proofs.Made.{of_its_node, never_bad, never_refused, bad_memory_or_unread, read_anyway}
use Rattle.scp_live.proofs.live.Live.begin.Goals as goal

pub returns-clause-theorem : goal.returns-clause-theorem
returns-clause-theorem c = of_its_node c.of.result c.in_ok-node.node (λ (v : NodeView). LedgerTheoremFrom kv_says (c.args.before + 1) c.args.base.items [] v) c.in_ok-node.ensures.theorem c.of.ensures.node

pub returns-clause-config : goal.returns-clause-config
returns-clause-config c = of_its_node c.of.result c.in_ok-node.node (λ (v : NodeView). v.config ≡ c.args.config) c.in_ok-node.ensures.config c.of.ensures.node

pub returns-clause-runs : goal.returns-clause-runs
returns-clause-runs c = of_its_node c.of.result c.in_ok-node.node (λ (v : NodeView). v.failed ≡ false) c.in_ok-node.ensures.theorem.failed c.of.ensures.node

pub returns-clause-refused : goal.returns-clause-refused
returns-clause-refused c = (λ bad. absurd (never_bad c.of.result c.of.ensures.only_memory bad), λ unfit. absurd (never_refused c.begin.result c.in_ok-node.node c.in_ok-node.was (c.begin.ensures.refused.1 unfit)))

pub returns-clause-no_state : goal.returns-clause-no_state
returns-clause-no_state c = read_anyway c.of.result (IsBase state_of bytes_of c.args.base.items) c.of.ensures.only_memory

pub returns-clause-only : goal.returns-clause-only
returns-clause-only c = bad_memory_or_unread c.of.result c.of.ensures.only_memory
