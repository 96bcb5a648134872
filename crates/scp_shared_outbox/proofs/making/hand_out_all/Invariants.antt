use Rattle.std.proofs.Common.{◌≡◌, false, length}
use Rattle.std.specs.Arc.{arc_value}
use Rattle.crossbeam_queue.specs.Passes.{view, IsPassOf}
use Rattle.scp_shared_outbox.specs.Ends.{AreFresh}
use Rattle.scp_shared_outbox.specs.inside.Rule.{taker}
use Rattle.scp_shared_outbox.proofs.making.hand_out_all.Given as goal

abbrev pub invariant-loop-number : goal.invariant-loop-number
invariant-loop-number l = IsPassOf (arc_value l.desk).place l.pass × (view l.pass ≡ taker false l.number) × (length l.ends.items ≡ l.number) × AreFresh l.pass.table_id l.ends.items × (l.pass.table_id ≡ l.initial.pass.table_id)
