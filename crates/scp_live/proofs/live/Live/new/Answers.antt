use Rattle.std.proofs.Common.{◌≡◌, [], false}
use Rattle.scp_again.specs.scp_core.specs.Kv.{NodeView, LedgerTheorem}
use Rattle.scp_live.proofs.Made.{of_its_node, never_bad, never_refused, bad_or_memory}
use Rattle.scp_live.proofs.live.Live.new.Goals as goal

pub returns-clause-theorem : goal.returns-clause-theorem
returns-clause-theorem c = of_its_node c.of.result c.in_ok-node.node (λ (v : NodeView). LedgerTheorem [] v) c.in_ok-node.ensures.theorem c.of.ensures.node

pub returns-clause-config : goal.returns-clause-config
returns-clause-config c = of_its_node c.of.result c.in_ok-node.node (λ (v : NodeView). v.config ≡ c.args.config) c.in_ok-node.ensures.config c.of.ensures.node

pub returns-clause-runs : goal.returns-clause-runs
returns-clause-runs c = of_its_node c.of.result c.in_ok-node.node (λ (v : NodeView). v.failed ≡ false) c.in_ok-node.ensures.theorem.failed c.of.ensures.node

pub returns-clause-refused : goal.returns-clause-refused
returns-clause-refused c = (λ bad. absurd (never_bad c.of.result c.of.ensures.only_memory bad), λ unfit. absurd (never_refused c.of_many.result c.in_ok-node.node c.in_ok-node.was (c.of_many.ensures.refused.1 unfit)))

pub returns-clause-only : goal.returns-clause-only
returns-clause-only c = bad_or_memory c.of.result c.of.ensures.only_memory
