use Rattle.std.proofs.Common.{◌≡◌, ◌++◌, drop}
use Rattle.scp_notices.specs.Ignoring.{told_by}
use Rattle.scp_notices.proofs.threads.add_told.Given as goal

-- with what is left it is all
abbrev pub invariant-loop-fate : goal.invariant-loop-fate
invariant-loop-fate l = l.told.items ++ told_by l.node (drop l.fate-index l.fates) ≡ l.initial.told.items ++ told_by l.node l.fates
