use Rattle.scp_quorum.proofs.Decided.{sane_decided}
use Rattle.scp_quorum.proofs.quorum_set.QuorumSet.is_sane.Goals as goal

pub returns : goal.returns
returns c = sane_decided c.args.self.now c.is_some.result c.spend.result (c.fits.ensures.0 c.if-not-fits.false) (c.is_in_range.ensures.0 c.if-not-is_in_range.false) (c.has_few_distinct_nodes.ensures.0 c.if-not-has_few_distinct_nodes.false) c.spend.ensures c.is_some.ensures
