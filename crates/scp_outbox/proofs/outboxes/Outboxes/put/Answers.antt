use Rattle.scp_outbox.proofs.Putting.{put_out}
use Rattle.scp_outbox.proofs.outboxes.Outboxes.put.Goals as goal

pub returns : goal.returns
returns c = record { puts = rw (← c.self.view_is) (put_out _ c.args.link c.args.message _ c.get.ensures.fits c.put_at.ensures) }
