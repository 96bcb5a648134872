use Rattle.std.proofs.Common.{◌≡◌, ◌++◌, drop}
use Rattle.scp_test_folder.proofs.content.add_all.Given as goal

-- with what is left it is all
abbrev pub invariant-loop-ended : goal.invariant-loop-ended
invariant-loop-ended l = l.past.items ++ drop l.ended-index l.more ≡ l.fn.past.items ++ l.more
