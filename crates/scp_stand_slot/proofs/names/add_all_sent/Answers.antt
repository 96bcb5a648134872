use Rattle.scp_stand_slot.proofs.Listing.{sent_more}
use Rattle.std.proofs.Common.{arith}
use Rattle.scp_stand_slot.proofs.names.add_all_sent.Goals as goal

pub loop-command-preserved : goal.loop-command-preserved
loop-command-preserved c = record {
  sets = sent_more c.args.commands.now c.loop-command.command-index _ c.command-item.result _ _ _ (omega arith) c.command-item.is c.in_ok-add_sent.ensures.sets c.loop-command.invariant.sets;
  fits = λ h. c.in_ok-add_sent.ensures.fits (c.loop-command.invariant.fits h);
}
