use Rattle.scp_history.proofs.Standing.{status_cut, status_more, status_none}
use Rattle.scp_history.proofs.status.status_of.Goals as goal

pub returns-then-has_cut : goal.returns-then-has_cut
returns-then-has_cut c = status_cut c.args.lines.now c.has_cut.result c.has_cut.ensures c.if-has_cut.true

pub returns-then-has_notice : goal.returns-then-has_notice
returns-then-has_notice c = status_more c.args.lines.now c.has_cut.result c.has_notice.result c.has_cut.ensures c.if-has_cut.false c.has_notice.ensures c.if-has_notice.true

pub returns : goal.returns
returns c = status_none c.args.lines.now c.has_cut.result c.has_notice.result c.has_cut.ensures c.if-has_cut.false c.has_notice.ensures c.if-has_notice.false
