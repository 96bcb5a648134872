use Rattle.std.proofs.Common.{sym, ◌∙◌}
use Rattle.scp_script_check.proofs.Wanting.{told_bad, told_none}
use Rattle.scp_script_check.proofs.reading.without_memory.Goals as goal

pub told_at-requires : goal.told_at-requires
told_at-requires c = told_bad c.args.text.now c.parse.result c.in-Some.line (sym c.bad_line.ensures ∙ c.in-Some.is) c.parse.ensures.cause

pub returns-in-None : goal.returns-in-None
returns-in-None c = told_none c.args.text.now c.parse.result (sym c.bad_line.ensures ∙ c.in-None.is) c.parse.ensures.no_bad_line c.parse.ensures.cause c.parse.ensures.memory_last
