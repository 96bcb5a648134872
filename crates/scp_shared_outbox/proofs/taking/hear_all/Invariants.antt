use Rattle.std.proofs.Common.{◌≡◌, ◌++◌}
use Rattle.crossbeam_queue.specs.Passes.{view, IsPassOf}
use Rattle.scp_shared_outbox.specs.inside.Rule.{IsStill}
use Rattle.scp_shared_outbox.specs.inside.Passes.{HavePut}
use Rattle.scp_shared_outbox.proofs.taking.hear_all.Given as goal

abbrev pub invariant-loop-putter : goal.invariant-loop-putter
invariant-loop-putter l = record {
  place : IsPassOf l.place l.pass × (l.pass.table_id ≡ l.initial.pass.table_id);
  still : IsStill (view l.initial.pass) (view l.pass);
  all : l.fn.putters.items ≡ l.yielded ++ l.putter-iterator.rest.items;
  heard : HavePut (view l.initial.pass).turns l.yielded;
}
