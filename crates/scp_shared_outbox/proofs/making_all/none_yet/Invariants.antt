use Rattle.std.proofs.Common.{◌≡◌, length}
use Rattle.scp_shared_outbox.specs.Places.{Each}
use Rattle.scp_shared_outbox.specs.inside.Links.{HasNone}
use Rattle.scp_shared_outbox.proofs.making_all.none_yet.Given as goal

abbrev pub invariant-loop : goal.invariant-loop
invariant-loop l = record {
  many : length l.outlets.items ≡ l.counter;
  none : Each HasNone l.outlets.items;
}
