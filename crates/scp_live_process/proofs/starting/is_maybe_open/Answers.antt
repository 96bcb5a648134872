use Rattle.std.proofs.Common.{◌<◌, ◌∙◌, ℕ, sym, ap, subst, arith}
use Rattle.scp_stand_node.specs.scp_core.specs.Node.{room_at}
use Rattle.scp_stand_node.specs.scp_core.specs.Kv.{NodeView}
use Rattle.scp_live_process.proofs.Started.{shut_at}
use Rattle.scp_live_process.proofs.starting.is_maybe_open.Goals as goal

pub returns-clause-none : goal.returns-clause-none
returns-clause-none c =
    let v = c.args.live.now.node in
    let some : 0 < c.room-room.result = omega arith in
    let room = c.room-room.ensures ∙ ap (λ (n : NodeView). room_at n c.args.link) c.node.ensures in
    shut_at v c.args.link c.requires.live.runs (sym c.is_open.ensures ∙ c.if-is_open.false) (subst (λ (n : ℕ). 0 < n) room some)
