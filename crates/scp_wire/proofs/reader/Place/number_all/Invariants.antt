use Rattle.std.proofs.Common.{◌≡◌, ◌++◌, length}
use Rattle.std.specs.Vec.Iter.{into_iter_items}
use Rattle.std.specs.VecDeque.{deque_len}
use Rattle.scp_wire.specs.LinkReading.{brought_each, after_each, records_from}
use Rattle.scp_wire.proofs.reader.Place.number_all.Given as goal

abbrev pub invariant-loop-value : goal.invariant-loop-value
invariant-loop-value l = record {
  read : l.read.items ≡ brought_each l.conn l.fn.self.next (records_from l.first.0 l.yielded);
  stands : l.at ≡ after_each l.fn.self (records_from l.first.0 l.yielded);
  count : deque_len l.read ≡ length l.read.items;
  all : l.yielded ++ into_iter_items l.value-iterator ≡ into_iter_items l.initial.value-iterator;
}
