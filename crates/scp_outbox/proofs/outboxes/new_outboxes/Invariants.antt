use Rattle.std.proofs.Common.{◌≡◌}
use Rattle.std.specs.Prelude.{replicate}
use Rattle.scp_outbox.specs.Handing.{empty_outbox}
use Rattle.scp_outbox.proofs.outboxes.new_outboxes.Given as goal

abbrev pub invariant-loop : goal.invariant-loop
invariant-loop l = record {
  made : l.outboxes.items ≡ replicate l.counter empty_outbox;
}
