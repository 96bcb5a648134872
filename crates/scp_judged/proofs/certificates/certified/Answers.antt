use Rattle.std.proofs.Common.{map, sym}
use Rattle.scp_judged.specs.Verdicts.{heard_of}
use Rattle.scp_judged.proofs.Certifying.{unsaid_here}
use Rattle.scp_judged.proofs.certificates.certified.Goals as goal

pub returns-in-None-clause-none : goal.returns-in-None-clause-none
returns-in-None-clause-none c = unsaid_here (map heard_of c.args.counting.now) c.args.node (sym c.in-None.ensures)
