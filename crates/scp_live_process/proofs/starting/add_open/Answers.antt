use Rattle.std.proofs.Common.{sym, ◌∙◌}
use Rattle.scp_stand_node.specs.scp_core.specs.Node.{accepts_at}
use Rattle.scp_live_process.proofs.Started.{not_added, is_added}
use Rattle.scp_live_process.proofs.starting.add_open.Goals as goal

pub returns-then-not-is_open : goal.returns-then-not-is_open
returns-then-not-is_open c = not_added (accepts_at c.args.live.now.node c.args.link) c.args.link c.args.links.now.items (sym c.is_open.ensures ∙ c.if-not-is_open.true)

pub returns : goal.returns
returns c = is_added (accepts_at c.args.live.now.node c.args.link) c.args.link c.args.links.now.items _ (sym c.is_open.ensures ∙ c.if-not-is_open.false) c.in_ok-push.ensures.items
