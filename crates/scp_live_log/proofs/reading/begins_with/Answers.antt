use Rattle.scp_live_log.proofs.Starts.{starts_some, starts_none}
use Rattle.scp_live_log.proofs.reading.begins_with.Goals as goal

pub returns-then-bytes-front-clause-some : goal.returns-then-bytes-front-clause-some
returns-then-bytes-front-clause-some c = starts_some c.args.bytes.now c.args.front.now c.if-bytes-front.true c.eq.result c.eq.ensures

pub returns-then-bytes-front-clause-none : goal.returns-then-bytes-front-clause-none
returns-then-bytes-front-clause-none c = starts_none c.args.bytes.now c.args.front.now c.if-bytes-front.true c.eq.result c.eq.ensures
