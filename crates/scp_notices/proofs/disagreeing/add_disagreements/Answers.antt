use Rattle.std.specs.Prelude.{map}
use Rattle.scp_notices.specs.Disagreeing.{disagreement}
use Rattle.scp_notices.specs.inside.Seen.{applied_in}
use Rattle.scp_notices.proofs.Counting.{added_more}
use Rattle.scp_notices.proofs.disagreeing.add_disagreements.Goals as goal

pub loop-place-preserved : goal.loop-place-preserved
loop-place-preserved c = added_more (disagreement (map applied_in c.args.reports.now)) c.loop-place.place c.args.out.now.items c.loop-place.out.items c.add_slot.new.out.items c.loop-place.invariant c.in_ok-add_slot.ensures.added
