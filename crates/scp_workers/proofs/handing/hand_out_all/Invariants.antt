use Rattle.std.proofs.Common.{◌≡◌, ◌++◌}
use Rattle.std.specs.Vec.Iter.{into_iter_items}
use Rattle.scp_workers.specs.Working.{AreSameOutlets}
use Rattle.scp_workers.specs.inside.Handing.{PutsOut}
use Rattle.scp_workers.proofs.handing.hand_out_all.Given as goal

abbrev pub invariant-loop-one : goal.invariant-loop-one
invariant-loop-one g l = record {
  same : AreSameOutlets l.fn.outlets.items l.outlets.items;
  puts : PutsOut l.yielded l.fn.outlets.items l.outlets.items;
  all : l.yielded ++ into_iter_items l.one-iterator ≡ into_iter_items l.initial.one-iterator;
}
