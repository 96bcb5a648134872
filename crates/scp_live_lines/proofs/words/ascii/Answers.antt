use Rattle.std.proofs.Common.{sym}
use Rattle.std.proofs.lemmas.Str.{IsUtf8-from_ascii}
use Rattle.scp_script.proofs.Lines.{is_ascii-true}
use Rattle.scp_live_lines.proofs.words.ascii.Goals as goal

pub returns-in-Ok-clause-exact : goal.returns-in-Ok-clause-exact
returns-in-Ok-clause-exact c = sym (is_ascii-true c.args.line.now c.if-not-is_ascii.ensures.cases)

pub returns-in-Err-clause-exact : goal.returns-in-Err-clause-exact
returns-in-Err-clause-exact c = absurd (c.in-Err.ensures.cases.0 (IsUtf8-from_ascii c.args.line.now c.if-not-is_ascii.ensures.cases))
