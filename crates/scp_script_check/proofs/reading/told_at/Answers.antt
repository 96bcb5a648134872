use Rattle.std.proofs.Common.{sym}
use Rattle.scp_script_check.proofs.Wanting.{bad_as_told, wants_behind, not_true, not_false}
use Rattle.scp_script_check.proofs.reading.told_at.Goals as goal

pub returns-then-are_bare : goal.returns-then-are_bare
returns-then-are_bare c = bad_as_told c.args.text.now c.args.line c.requires (not_true _ (sym c.if-are_bare.ensures))

pub returns : goal.returns
returns c = wants_behind c.args.text.now c.args.line c.requires (not_false _ (sym c.if-are_bare.ensures))
