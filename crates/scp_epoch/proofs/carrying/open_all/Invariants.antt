use Rattle.std.proofs.Common.{◌≡◌, false}
use Rattle.scp_epoch.specs.Played.{openings}
use Rattle.scp_epoch.specs.inside.Playing.{Plays}
use Rattle.scp_epoch.proofs.Playing.{done}
use Rattle.scp_epoch.proofs.carrying.open_all.Given as goal

-- the links so far are open
abbrev pub invariant-loop-link : goal.invariant-loop-link
invariant-loop-link g l = record {
  played : Plays g.A.Driver.says (openings l.link) done l.fn.node l.node;
  runs : l.node.failed ≡ false;
}
