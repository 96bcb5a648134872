use Rattle.std.proofs.Common.{◌∙◌, sym, arith}
use Rattle.scp_trace.proofs.AtEnd.{told_acted, told_asked, told_kept}
use Rattle.scp_trace.proofs.ending.is_told.Goals as goal
use Rattle.scp_trace.proofs.ending.is_told.Goals.{then-acts, else-acts+then-asks, else-acts+else-asks}

pub loop-command-preserved : goal.loop-command-preserved
loop-command-preserved c =
    elim c.if-acts.branch [
      | then-acts w ↦ told_acted c.args.number c.args.commands.now c.loop-command.command-index c.command-item.result c.if-acts.told (omega arith) c.command-item.is (sym c.acts.ensures ∙ w.if-acts.true) w.told-is
      | else-acts+then-asks w ↦ told_asked c.args.number c.args.commands.now c.loop-command.command-index c.command-item.result c.if-acts.told (omega arith) c.command-item.is (sym c.acts.ensures ∙ w.if-acts.false) (sym w.asks.ensures ∙ w.if-asks.true) w.told-is
      | else-acts+else-asks w ↦ told_kept c.args.number c.args.commands.now c.loop-command.command-index c.command-item.result c.loop-command.told c.if-acts.told (omega arith) c.command-item.is (sym c.acts.ensures ∙ w.if-acts.false) (sym w.asks.ensures ∙ w.if-asks.false) c.loop-command.invariant w.told-is
    ]
