use Rattle.std.proofs.Common.{◌≡◌, ◌∙◌, ap, sym}
use Rattle.std.specs.Prelude.{option_copied}
use Rattle.scp_ledgers.proofs.Lasting.{last_some, last_none}
use Rattle.scp_ledgers.proofs.ending.last_of.Goals as goal

pub returns-in-Some : goal.returns-in-Some
returns-in-Some c = last_some c.args.first c.args.rest.now c.in-Some.last.now (sym (ap option_copied c.in-Some.is) ∙ c.last.ensures.value)

pub returns-in-None : goal.returns-in-None
returns-in-None c = last_none c.args.first c.args.rest.now (sym (ap option_copied c.in-None.is) ∙ c.last.ensures.value)
