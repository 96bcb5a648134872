use Rattle.std.proofs.Common.{◌∙◌, sym}
use Rattle.scp_kv.proofs.Bytes.{below_first, below_none}
use Rattle.scp_kv.proofs.saved.is_below.Goals as goal

pub returns-in-Some : goal.returns-in-Some
returns-in-Some c = c.lt.ensures ∙ below_first c.args.state.now c.args.key.now (c.in-Some.least.now, c.in-Some.field-0-1.now) c.next.new.self (sym c.lines.ensures.entries ∙ c.in-Some.ensures.steps)

pub returns-in-None : goal.returns-in-None
returns-in-None c = below_none c.args.state.now c.args.key.now (sym c.lines.ensures.entries ∙ c.in-None.ensures.steps.0)
