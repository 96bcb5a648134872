use Rattle.std.proofs.Common.{◌≡◌}
use Rattle.std.specs.Prelude.{replicate}
use Rattle.scp_core.specs.Node.{new_link}
use Rattle.scp_core.proofs.link.new_links.Given as goal

abbrev pub invariant-loop : goal.invariant-loop
invariant-loop l = record {
  made : l.links.items ≡ replicate l.counter (new_link l.fn.room);
}
