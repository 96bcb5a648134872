use Rattle.std.proofs.Common.{ℕ, List, refl, ◌∙◌, ap, subst, inl, inr}
use Rattle.scp_stand_node.specs.scp_types.specs.declared.fault.Fault.TheVariants.{NoMemory, Device}
use Rattle.scp_stand_node.specs.scp_device.specs.Device.{Gains, GainsPart}
use Rattle.scp_batches.specs.scp_live_log.specs.declared.kept.LogFault.TheVariants.{Failed}
use Rattle.scp_stand_node.specs.scp_turn.specs.Watch.{notes}
use Rattle.scp_live_process.specs.Ending.{streams}
use Rattle.scp_live_process.proofs.Going.{seen_as, seen_then, then_unseen, unwatched_as, unwatched_then}
use Rattle.scp_live_process.proofs.Started.{has_run}
use Rattle.scp_live_process.proofs.Ended.{serve_fault}
use Rattle.scp_live_process.proofs.Refusing.{log_unfilled, fault_full, fault_else, fault_behind}
use Rattle.scp_live_process.proofs.process.run.Goals as goal

pub returns-in-Err-clause-ran : goal.returns-in-Err-clause-ran
returns-in-Err-clause-ran g c = seen_as (notes g.V.Watch.notes_before g.V.Watch.notes_after) c.args.watch.now c.restart.new.watch c.args.live.now.node c.restart.new.live.node _ _ (λ heard p. tt) c.in-Err.ensures.restarted

pub returns-in-Err-clause-stopped : goal.returns-in-Err-clause-stopped
returns-in-Err-clause-stopped g c =
    unwatched_as (notes g.V.Watch.notes_before g.V.Watch.notes_after) c.args.watch.now c.restart.new.watch c.args.live.now.node c.restart.new.live.node _ _ (λ heard p. (fault_full c.in-Err.fault heard p.2, inl (record { same = refl; stays = c.in-Err.ensures.stays; why = p.1 }))) c.in-Err.ensures.restarted

pub returns-in-Err-greeting_of-clause-ran : goal.returns-in-Err-greeting_of-clause-ran
returns-in-Err-greeting_of-clause-ran g c = seen_as (notes g.V.Watch.notes_before g.V.Watch.notes_after) c.args.watch.now c.restart.new.watch c.args.live.now.node c.restart.new.live.node _ _ (λ heard p. tt) c.in-Ok.ensures.restarted

pub returns-in-Err-greeting_of-clause-stopped : goal.returns-in-Err-greeting_of-clause-stopped
returns-in-Err-greeting_of-clause-stopped g c =
    unwatched_as (notes g.V.Watch.notes_before g.V.Watch.notes_after) c.args.watch.now c.restart.new.watch c.args.live.now.node c.restart.new.live.node _ _
    (λ heard p. (fault_else c.in-Ok.found (Failed NoMemory) heard (λ e. cc) p.2, inr (inl (record { found = c.in-Ok.found; restarted = p.0; unread = refl; why = inl (refl, refl) })))) c.in-Ok.ensures.restarted

pub returns-in-Err-write_text-clause-ran : goal.returns-in-Err-write_text-clause-ran
returns-in-Err-write_text-clause-ran g c = seen_as (notes g.V.Watch.notes_before g.V.Watch.notes_after) c.args.watch.now c.restart.new.watch c.args.live.now.node c.restart.new.live.node _ _ (λ heard p. tt) c.in-Ok.ensures.restarted

pub returns-in-Err-write_text-clause-stopped : goal.returns-in-Err-write_text-clause-stopped
returns-in-Err-write_text-clause-stopped g c =
    let written = g.W.ReportOut.written in
    let part = subst (λ (t : List ℕ). GainsPart (written c.args.writer.now) t (written c.write_text.new.writer)) (c.as_str.ensures.value ∙ c.in-Ok-greeting_of.ensures) c.in-Err-write_text.ensures.part in
    unwatched_as (notes g.V.Watch.notes_before g.V.Watch.notes_after) c.args.watch.now c.restart.new.watch c.args.live.now.node c.restart.new.live.node _ _
    (λ heard p. (fault_else c.in-Ok.found (Failed Device) heard (λ e. cc) p.2, inr (inl (record { found = c.in-Ok.found; restarted = p.0; unread = refl; why = inr (refl, c.in-Err-write_text.ensures.raised, part) })))) c.in-Ok.ensures.restarted

pub returns-in-Ok-serve-clause-ran : goal.returns-in-Ok-serve-clause-ran
returns-in-Ok-serve-clause-ran g c =
    seen_then (notes g.V.Watch.notes_before g.V.Watch.notes_after) c.args.watch.now c.restart.new.watch c.serve.new.watch c.args.live.now.node c.restart.new.live.node c.serve.new.live.node _ _ _
    (λ x y p q. has_run g.L.EventLog.holds g.L.EventLog.may_leave c.args.header.now _ _ _ _ c.args.kept.now c.restart.new.kept c.serve.new.kept c.args.live.now c.restart.new.live c.serve.new.live x y c.in-Ok.found c.as_str.result.now p.0 (c.as_str.ensures.value ∙ c.in-Ok-greeting_of.ensures) c.in-Ok-write_text.ensures.whole q.0)
    c.in-Ok.ensures.restarted c.in-Ok-serve.ensures.served

pub returns-in-Ok-serve-clause-stopped : goal.returns-in-Ok-serve-clause-stopped
returns-in-Ok-serve-clause-stopped g c =
    unwatched_then (notes g.V.Watch.notes_before g.V.Watch.notes_after) c.args.watch.now c.restart.new.watch c.serve.new.watch c.args.live.now.node c.restart.new.live.node c.serve.new.live.node _ _ _ (λ x y p q. tt) c.in-Ok.ensures.restarted c.in-Ok-serve.ensures.served

pub returns-clause-ran : goal.returns-clause-ran
returns-clause-ran g c = then_unseen (notes g.V.Watch.notes_before g.V.Watch.notes_after) c.args.watch.now c.restart.new.watch c.serve.new.watch c.args.live.now.node c.restart.new.live.node c.serve.new.live.node _ _ c.in-Ok.ensures.restarted c.in-Err-serve.ensures.served

pub returns-clause-stopped : goal.returns-clause-stopped
returns-clause-stopped g c =
    let greeted = (streams (g.R.ScriptIn.left c.args.reader.now) (g.R.ScriptIn.failures c.args.reader.now) (g.W.ReportOut.written c.write_text.new.writer) (g.W.ReportOut.failures c.write_text.new.writer)) in
    let served = (streams (g.R.ScriptIn.left c.serve.new.reader) (g.R.ScriptIn.failures c.serve.new.reader) (g.W.ReportOut.written c.serve.new.writer) (g.W.ReportOut.failures c.serve.new.writer)) in
    unwatched_then (notes g.V.Watch.notes_before g.V.Watch.notes_after) c.args.watch.now c.restart.new.watch c.serve.new.watch c.args.live.now.node c.restart.new.live.node c.serve.new.live.node _ _ _
    (λ x y p q. (
      fault_behind c.in-Err-serve.fault x y (log_unfilled c.in-Ok.found x p.2) q.2,
      inr (inr (record {
        started = c.restart.new.live;
        ready = c.restart.new.kept;
        found = c.in-Ok.found;
        greeted = greeted;
        heard_first = x;
        heard_next = y;
        heard_is = refl;
        restarted = p.0;
        unread = ap (λ (n : ℕ). streams (g.R.ScriptIn.left c.args.reader.now) (g.R.ScriptIn.failures c.args.reader.now) (g.W.ReportOut.written c.write_text.new.writer) n) c.in-Ok-write_text.ensures.kept;
        greets = subst (λ (t : List ℕ). Gains (g.W.ReportOut.written c.args.writer.now) t (g.W.ReportOut.written c.write_text.new.writer)) (c.as_str.ensures.value ∙ c.in-Ok-greeting_of.ensures) c.in-Ok-write_text.ensures.whole;
        cause = c.in-Err-serve.fault;
        is = refl;
        served = q.1;
        why = serve_fault greeted served (g.L.EventLog.faults c.restart.new.kept.log) (g.L.EventLog.faults c.serve.new.kept.log) y c.in-Err-serve.fault c.in-Err-serve.ensures.device c.in-Err-serve.ensures.hidden q.2.0 c.in-Err-serve.ensures.only;
      })),
    ))
    c.in-Ok.ensures.restarted c.in-Err-serve.ensures.served
