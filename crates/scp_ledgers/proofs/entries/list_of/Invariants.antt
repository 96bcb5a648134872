use Rattle.std.proofs.Common.{◌≡◌, ◌++◌}
use Rattle.std.specs.BTreeSet.{keys}
use Rattle.scp_ledgers.proofs.entries.list_of.Given as goal

-- with what is left they are all
abbrev pub invariant-loop-number : goal.invariant-loop-number
invariant-loop-number l = l.list.items ++ l.number-iterator ≡ keys l.numbers
