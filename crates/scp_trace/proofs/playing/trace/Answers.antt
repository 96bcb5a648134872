use Rattle.scp_trace.proofs.Pieces.{lines_fit}
use Rattle.scp_trace.proofs.playing.trace.Goals as goal

pub played-requires-clause-count : goal.played-requires-clause-count
played-requires-clause-count c = lines_fit c.args.text.now c.in-Ok.script.commands.items c.in-Ok.script.lines.items c.in-Ok.ensures.said
