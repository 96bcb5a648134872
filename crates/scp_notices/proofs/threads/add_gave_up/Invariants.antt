use Rattle.std.proofs.Common.{◌≡◌, ◌++◌, drop}
use Rattle.scp_notices.specs.Threads.{gave_up}
use Rattle.scp_notices.proofs.threads.add_gave_up.Given as goal

-- with what is left it is all
abbrev pub invariant-loop-place : goal.invariant-loop-place
invariant-loop-place l = l.out.items ++ gave_up l.lines (drop l.place-index l.places) ≡ l.initial.out.items ++ gave_up l.lines l.places
