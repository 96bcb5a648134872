use Rattle.scp_envelope.proofs.Growing.{newer_decided}
use Rattle.scp_envelope.proofs.order.is_newer_nominate.Goals as goal

pub returns-then-keeps_values : goal.returns-then-keeps_values
returns-then-keeps_values c = newer_decided c.args.old.now c.args.new.now c.is_larger.result (c.keeps_values.ensures.0 c.if-keeps_values.true) c.is_larger.ensures
