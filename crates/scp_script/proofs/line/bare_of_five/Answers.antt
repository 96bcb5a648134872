use Rattle.std.proofs.Common.{◌∙◌}
use Rattle.scp_script.proofs.Lines.{five_are_bare}
use Rattle.scp_script.proofs.line.bare_of_five.Goals as goal

pub returns-clause-found : goal.returns-clause-found
returns-clause-found c = c.of_five.ensures.found ∙ five_are_bare c.args.verb.now c.args.link.now c.args.inbox.now c.args.ready.now c.args.decided.now
