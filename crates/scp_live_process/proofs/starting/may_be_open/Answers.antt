use Rattle.std.proofs.Common.{◌<◌, arith}
use Rattle.scp_stand_node.specs.scp_turn.specs.Turn.{links_of}
use Rattle.scp_live_process.proofs.starting.may_be_open.Goals as goal

pub returns-then-is_maybe_open-clause-some : goal.returns-then-is_maybe_open-clause-some
returns-then-is_maybe_open-clause-some c =
    let within : c.loop-link.link < links_of c.args.live.now.node = omega arith in
    (c.loop-link.link, within, c.if-is_maybe_open.ensures.some)
