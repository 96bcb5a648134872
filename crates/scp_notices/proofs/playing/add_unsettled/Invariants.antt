use Rattle.std.proofs.Common.{◌≡◌, ◌++◌, drop}
use Rattle.scp_notices.specs.Run.{unsettled}
use Rattle.scp_notices.proofs.playing.add_unsettled.Given as goal

-- with what is left it is all
abbrev pub invariant-loop-line : goal.invariant-loop-line
invariant-loop-line l = l.out.items ++ unsettled (drop l.line-index l.cut) ≡ l.initial.out.items ++ unsettled l.cut
