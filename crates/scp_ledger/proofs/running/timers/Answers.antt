use Rattle.std.proofs.Common.{◌+◌, ℕ, List, sym, subst}
use Rattle.scp_slot.specs.declared.timers.Timer.{Timer}
use Rattle.scp_ledger.specs.Timers.{AreTimers, AreTimersIfSlot}
use Rattle.scp_ledger.proofs.InTurn.{timers_none, timers_more}
use Rattle.scp_ledger.proofs.running.timers.Goals as goal

pub loop-ahead-init : goal.loop-ahead-init
loop-ahead-init g c =
    subst (λ (ts : List Timer). AreTimers c.args.ledger.now.machines c.args.ledger.now.lowest 0 ts) (sym c.new-timers.ensures.items) (timers_none c.args.ledger.now.machines c.args.ledger.now.lowest)

pub loop-ahead-preserved : goal.loop-ahead-preserved
loop-ahead-preserved g c =
    timers_more c.args.ledger.now.machines c.args.ledger.now.lowest c.loop-ahead.ahead c.loop-ahead.timers.items c.add_ahead.new.timers.items c.loop-ahead.invariant
    (subst (λ (n : ℕ). AreTimersIfSlot c.args.ledger.now.machines (n + c.loop-ahead.ahead) c.loop-ahead.timers.items c.add_ahead.new.timers.items) c.lowest-lowest.ensures.same c.in_ok-add_ahead.ensures.added)
