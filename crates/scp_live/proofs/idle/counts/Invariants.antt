use Rattle.std.proofs.Common.{◌≡◌, map, take}
use Rattle.scp_live.specs.Idle.{idle_in}
use Rattle.scp_live.proofs.idle.counts.Given as goal

-- the counts of the peers so far
abbrev pub invariant-loop-peer : goal.invariant-loop-peer
invariant-loop-peer l = l.counts.items ≡ map (idle_in l.fates) (take l.peer-index l.peers)
