use Rattle.std.proofs.Common.{arith, refl}
use Rattle.std.proofs.lemmas.Result.{on_ok_weaker}
use Rattle.scp_pending.proofs.Places.{park_behind, park_first}
use Rattle.scp_pending.proofs.queue.push_at.Goals as goal

pub returns-then-len-gt0 : goal.returns-then-len-gt0
returns-then-len-gt0 c = on_ok_weaker c.push.result (λ e k at. park_behind k c.args.parked c.args.queues.now.items c.args.queues.now.items c.args.place c.index.result.now c.index_mut.result.now c.push.new.self refl at c.index.ensures (omega (arith, c.len.ensures, c.if-len-gt0.true)) c.index_mut.ensures.value e) c.push.ensures

pub returns : goal.returns
returns c = λ k at. park_first k c.args.parked c.args.queues.now.items c.args.queues.now.items c.args.place c.index.result.now c.remove-queue.result c.push-2.new.self c.remove-queue.new.self.items c.push-3.new.self.items refl at c.index.ensures (omega (arith, c.len.ensures, c.if-len-gt0.false)) c.remove-queue.ensures.value c.in_ok-push.ensures c.remove-queue.ensures.items c.in_ok-push-2.ensures.items
