use Rattle.std.proofs.Common.{◌≡◌}
use Rattle.scp_live_process.specs.Closing.{open_links}
use Rattle.scp_live_process.proofs.starting.open_links.Given as goal

-- those of the links so far
abbrev pub invariant-loop-link : goal.invariant-loop-link
invariant-loop-link l = l.links.items ≡ open_links l.live.node l.link
