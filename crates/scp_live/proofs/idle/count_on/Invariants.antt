use Rattle.std.proofs.Common.{◌≡◌, ◌++◌, map, take, drop}
use Rattle.scp_live.specs.Idle.{idle_in}
use Rattle.scp_live.proofs.idle.count_on.Given as goal

-- the peers so far have their new counts, and the others still their old ones
abbrev pub invariant-loop-place : goal.invariant-loop-place
invariant-loop-place l = l.counts ≡ map (idle_in l.journal) (take l.place l.peers) ++ map (idle_in (take l.before l.journal)) (drop l.place l.peers)
