use Rattle.std.proofs.Common.{sym, ◌∙◌}
use Rattle.scp_slot.specs.scp_quorum.specs.NodeSet.{is_in}
use Rattle.scp_stand_slot.proofs.Ways.{then_ok}
use Rattle.scp_stand_slot.proofs.Gathering.{joins_not, joins_one}
use Rattle.scp_stand_slot.proofs.facts.add_other.Goals as goal

pub returns-then-eq : goal.returns-then-eq
returns-then-eq c = joins_not c.args.me (is_in c.args.others.now) c.args.node (sym c.eq.ensures ∙ c.if-eq.true)

pub returns : goal.returns
returns c = then_ok c.add_node.result c.add_node.ensures (λ adds. joins_one c.args.me (is_in c.args.others.now) (is_in c.add_node.new.nodes) c.args.node (sym c.eq.ensures ∙ c.if-eq.false) adds)
