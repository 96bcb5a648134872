use Rattle.std.proofs.Common.{◌≡◌, ◌++◌, drop}
use Rattle.scp_live_folder.specs.Folder.{without}
use Rattle.scp_test_folder.proofs.content.without.Given as goal

-- with what is left of the others it is all
abbrev pub invariant-loop-other : goal.invariant-loop-other
invariant-loop-other l = l.left.items ++ without l.number (drop l.other-index l.numbers) ≡ without l.number l.numbers
