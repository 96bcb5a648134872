use Rattle.std.proofs.Common.{◌≡◌, ◌++◌, drop}
use Rattle.scp_notices.specs.Ignoring.{fates_at}
use Rattle.scp_notices.proofs.commands.fates_of.Given as goal

-- with what is left it is all
abbrev pub invariant-loop-one : goal.invariant-loop-one
invariant-loop-one l = l.fates.items ++ fates_at l.number (drop l.one-index l.told) ≡ fates_at l.number l.told
