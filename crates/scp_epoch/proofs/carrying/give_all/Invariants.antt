use Rattle.std.proofs.Common.{◌≡◌, false, ◌++◌, map}
use Rattle.scp_epoch.specs.Played.{event_of}
use Rattle.scp_epoch.specs.inside.Playing.{Plays}
use Rattle.scp_epoch.proofs.Playing.{done}
use Rattle.scp_epoch.proofs.carrying.give_all.Given as goal

-- those so far were given
abbrev pub invariant-loop-input : goal.invariant-loop-input
invariant-loop-input g l = record {
  played : Plays g.A.Driver.says (map event_of l.yielded) done l.fn.node l.node;
  runs : l.node.failed ≡ false;
  all : l.fn.carried.items ≡ l.yielded ++ l.input-iterator.rest.items;
}
