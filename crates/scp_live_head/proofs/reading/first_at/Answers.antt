use Rattle.scp_live_head.specs.Head.{first_line}
use Rattle.scp_live_head.proofs.Heads.{first_is_line, line_there, line_cut}
use Rattle.scp_live_head.proofs.reading.first_at.Goals as goal

pub returns-in_err-line-clause-found : goal.returns-in_err-line-clause-found
returns-in_err-line-clause-found c f tail fits is = absurd (line_there (first_line f) tail c.args.bytes.now is c.in_err-line.ensures.none)

pub returns-clause-found : goal.returns-clause-found
returns-clause-found c f tail fits is =
    c.first_in.ensures.found f fits (line_cut (first_line f) tail c.args.bytes.now c.in_ok-line.line.0.now c.in_ok-line.line.1.now (first_is_line f fits) is c.in_ok-line.ensures.some).0
