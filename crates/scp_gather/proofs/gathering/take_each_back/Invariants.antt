use Rattle.std.proofs.Common.{◌≡◌, List, ◌++◌}
use Rattle.std.specs.Prelude.{map}
use Rattle.std.specs.List.{AllZip}
use Rattle.scp_workers.specs.scp_ends.specs.Links.{LinkEnd}
use Rattle.scp_gather.specs.Node.{IsReadOut}
use Rattle.scp_gather.specs.inside.Kept.{kept_by}
use Rattle.scp_gather.proofs.gathering.take_each_back.Given as goal

abbrev pub invariant-loop-reader : goal.invariant-loop-reader
invariant-loop-reader l =
    (l.inbox ≡ l.initial.inbox)
    × (l.fn.readers.items ≡ l.yielded ++ l.reader-iterator.rest.items)
    × (front : List LinkEnd) × (l.fn.links.items ≡ front ++ l.tails.rest.items) × AllZip (IsReadOut l.initial.inbox) front l.yielded × (l.came.items ≡ map kept_by l.yielded)
