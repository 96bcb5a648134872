use Rattle.std.proofs.Common.{◌≡◌, take}
use Rattle.scp_live.specs.Idle.{idle_in}
use Rattle.scp_live.proofs.idle.idle_in.Given as goal

-- how many of the entries so far
abbrev pub invariant-loop-fate : goal.invariant-loop-fate
invariant-loop-fate l = l.count ≡ idle_in (take l.fate-index l.fates) l.peer
