use Rattle.std.proofs.Common.{◌≡◌, ◌+◌, ◌++◌, drop, map}
use Rattle.scp_shown.specs.Contradictions.{placed_from}
use Rattle.scp_shown.specs.inside.Placing.{placed}
use Rattle.scp_shown.proofs.contradictions.add_messages.Given as goal

-- with those of what is left they are all
abbrev pub invariant-loop-at : goal.invariant-loop-at
invariant-loop-at l = map placed l.all.items ++ placed_from l.file (l.at + 1) (drop l.at l.messages) ≡ map placed l.fn.all.items ++ placed_from l.file 1 l.messages
