use Rattle.std.proofs.Common.{◌≡◌, ◌++◌}
use Rattle.scp_stand_node.specs.scp_turn.specs.Watch.{notes}
use Rattle.scp_live_process.specs.Answers.{AreAnswered}
use Rattle.scp_live.specs.Living.{IsLive}
use Rattle.scp_live_process.specs.Adding.{Adds}
use Rattle.scp_live_process.specs.inside.Batches.{number_behind}
use Rattle.scp_live_process.proofs.Going.{Seen}
use Rattle.scp_live_process.proofs.answer.answer_all.Given as goal

-- the lines so far are answered
abbrev pub invariant-loop-line : goal.invariant-loop-line
invariant-loop-line g l = record {
  answered : Seen (notes g.V.Watch.notes_before g.V.Watch.notes_after) l.fn.watch l.watch l.fn.live.node l.live.node (λ heard. Adds (AreAnswered l.fn.number l.yielded) l.fn.live heard l.live l.fn.batch l.batch);
  live : IsLive l.live.node;
  number : l.number ≡ number_behind l.fn.number l.yielded;
  all : l.fn.lines.items ≡ l.yielded ++ l.line-iterator.rest.items;
}
