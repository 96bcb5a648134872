use Rattle.std.proofs.Common.{◌≡◌, length, take}
use Rattle.std.specs.Prelude.{zip}
use Rattle.scp_core.specs.Theorem.{LedgerTheorem}
use Rattle.scp_core.proofs.running.answer_all.Given as goal

abbrev pub invariant-loop-event : goal.invariant-loop-event
invariant-loop-event g l = record {
  theorem : LedgerTheorem g.A.Driver.says (zip (take l.event-index l.events) l.replies.items) l.node;
  count : length l.replies.items ≡ l.event-index;
  config : l.node.config ≡ l.initial.node.config;
}
