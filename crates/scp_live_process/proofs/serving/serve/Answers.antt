use Rattle.std.proofs.Common.{◌∙◌, Err, refl, ap, inl, inr, ⊎_elim}
use Rattle.scp_stand_node.specs.scp_types.specs.declared.fault.Fault.TheVariants.{NoMemory, Device, TooLong}
use Rattle.scp_stand_node.specs.scp_turn.specs.Watch.{notes}
use Rattle.scp_live_process.proofs.Going.{seen_nothing, seen_as, seen_then, seen_running}
use Rattle.scp_live_process.proofs.Acts.{err_as, full_behind, unfilled_yet, told_some, told_nothing}
use Rattle.scp_live_process.proofs.Served.{Serving, nothing_served, served_more, served_all, part_here, part_of, too_many}
use Rattle.scp_live_process.proofs.serving.serve.Goals as goal

pub loop-init : goal.loop-init
loop-init g c =
    let left = g.R.ScriptIn.left c.args.reader.now in
    let written = g.W.ReportOut.written c.args.writer.now in
    record {
      served = seen_nothing (notes g.V.Watch.notes_before g.V.Watch.notes_after) c.args.watch.now c.args.live.now.node (λ heard. Serving g.L.EventLog.holds g.L.EventLog.may_leave left left written written c.args.kept.now c.args.kept.now c.new-lines.result 1 c.args.live.now heard c.args.live.now)
          (nothing_served g.L.EventLog.holds g.L.EventLog.may_leave left written c.args.kept.now c.new-lines.result c.args.live.now c.new-lines.ensures);
      live = c.requires.live;
      reads = refl;
      writes = refl;
      keeps = refl;
    }

pub returns-in-Err-clause-served : goal.returns-in-Err-clause-served
returns-in-Err-clause-served g c =
    seen_as (notes g.V.Watch.notes_before g.V.Watch.notes_after) c.args.watch.now c.loop.watch c.args.live.now.node c.loop.live.node _ _
    (λ heard s. (tt, part_here g.L.EventLog.holds g.L.EventLog.may_leave (Err c.in-Err.fault) _ _ _ _ c.args.kept.now c.loop.kept _ _ c.args.live.now c.loop.live heard s.0 (λ e. c.in-Err.ensures.memory (err_as c.in-Err.fault NoMemory e)), unfilled_yet c.in-Err.fault heard c.in-Err.ensures.cause s.1))
    (seen_running (notes g.V.Watch.notes_before g.V.Watch.notes_after) c.args.watch.now c.loop.watch c.args.live.now.node c.loop.live.node
    (λ heard. Serving g.L.EventLog.holds g.L.EventLog.may_leave (g.R.ScriptIn.left c.args.reader.now) (g.R.ScriptIn.left c.loop.reader) (g.W.ReportOut.written c.args.writer.now) (g.W.ReportOut.written c.loop.writer) c.args.kept.now c.loop.kept c.loop.lines c.loop.number c.args.live.now heard c.loop.live)
    c.loop.invariant.live.runs c.loop.invariant.served)

pub returns-in-Ok-None-clause-served : goal.returns-in-Ok-None-clause-served
returns-in-Ok-None-clause-served g c =
    seen_as (notes g.V.Watch.notes_before g.V.Watch.notes_after) c.args.watch.now c.loop.watch c.args.live.now.node c.loop.live.node _ _
    (λ heard s. (
      served_all g.L.EventLog.holds g.L.EventLog.may_leave _ _ _ _ c.args.kept.now c.loop.kept _ _ c.args.live.now c.loop.live heard s.0 (told_nothing c.in-Ok-None.field-0 _ c.in-Ok-None.field-0-is c.in-Ok-None.ensures.ended).0,
      tt,
      (λ full. absurd cc, λ found. absurd (s.1 found)),
    ))
    (seen_running (notes g.V.Watch.notes_before g.V.Watch.notes_after) c.args.watch.now c.loop.watch c.args.live.now.node c.loop.live.node
    (λ heard. Serving g.L.EventLog.holds g.L.EventLog.may_leave (g.R.ScriptIn.left c.args.reader.now) (g.R.ScriptIn.left c.loop.reader) (g.W.ReportOut.written c.args.writer.now) (g.W.ReportOut.written c.loop.writer) c.args.kept.now c.loop.kept c.loop.lines c.loop.number c.args.live.now heard c.loop.live)
    c.loop.invariant.live.runs c.loop.invariant.served)

pub returns-in-Err-serve_batch-clause-served : goal.returns-in-Err-serve_batch-clause-served
returns-in-Err-serve_batch-clause-served g c =
    seen_then (notes g.V.Watch.notes_before g.V.Watch.notes_after) c.args.watch.now c.loop.watch c.serve_batch.new.watch c.args.live.now.node c.loop.live.node c.serve_batch.new.live.node _ _ _
    (λ x y s q. (
      tt,
      part_of g.L.EventLog.holds g.L.EventLog.may_leave (Err c.in-Err-serve_batch.fault) _ _ _ _ _ _ c.args.kept.now c.loop.kept c.serve_batch.new.kept _ _ _ _ c.args.live.now c.loop.live c.serve_batch.new.live x y s.0 (told_some c.in-Ok-Some.field-0 c.in-Ok-Some.batch _ c.in-Ok-Some.field-0-is c.in-Ok-Some.ensures.read)
          (⊎_elim (λ same. inl (ap g.W.ReportOut.written same.0, same.1)) (λ part. inr (err_as c.in-Err-serve_batch.fault Device part.0, part.1)) q.2),
      full_behind c.in-Err-serve_batch.fault x y s.1 q.1,
    ))
    (seen_running (notes g.V.Watch.notes_before g.V.Watch.notes_after) c.args.watch.now c.loop.watch c.args.live.now.node c.loop.live.node
    (λ heard. Serving g.L.EventLog.holds g.L.EventLog.may_leave (g.R.ScriptIn.left c.args.reader.now) (g.R.ScriptIn.left c.loop.reader) (g.W.ReportOut.written c.args.writer.now) (g.W.ReportOut.written c.loop.writer) c.args.kept.now c.loop.kept c.loop.lines c.loop.number c.args.live.now heard c.loop.live)
    c.loop.invariant.live.runs c.loop.invariant.served)
    c.in-Err-serve_batch.ensures.served

pub loop-preserved : goal.loop-preserved
loop-preserved g c = record {
  served = seen_then (notes g.V.Watch.notes_before g.V.Watch.notes_after) c.args.watch.now c.loop.watch c.serve_batch.new.watch c.args.live.now.node c.loop.live.node c.serve_batch.new.live.node _ _ _
      (λ x y s q. served_more g.L.EventLog.holds g.L.EventLog.may_leave _ _ _ _ _ _ c.args.kept.now c.loop.kept c.serve_batch.new.kept _ _ _ c.in-Ok.next _ c.args.live.now c.loop.live c.serve_batch.new.live x y s (told_some c.in-Ok-Some.field-0 c.in-Ok-Some.batch _ c.in-Ok-Some.field-0-is c.in-Ok-Some.ensures.read) q.0 c.in-Ok.ensures.next)
      c.loop.invariant.served c.in-Ok.ensures.served;
  live = c.in-Ok.ensures.live;
  reads = c.in-Ok-Some.ensures.kept ∙ c.loop.invariant.reads;
  writes = c.in-Ok.ensures.quiet.1 ∙ c.loop.invariant.writes;
  keeps = c.in-Ok.ensures.quiet.0 ∙ c.loop.invariant.keeps;
}

pub returns-clause-served : goal.returns-clause-served
returns-clause-served g c =
    seen_as (notes g.V.Watch.notes_before g.V.Watch.notes_after) c.args.watch.now c.loop.watch c.args.live.now.node c.loop.live.node _ _
    (λ heard s. (tt, part_here g.L.EventLog.holds g.L.EventLog.may_leave (Err TooLong) _ _ _ _ c.args.kept.now c.loop.kept _ _ c.args.live.now c.loop.live heard s.0 (too_many _), (λ full. absurd cc, λ found. absurd (s.1 found))))
    (seen_running (notes g.V.Watch.notes_before g.V.Watch.notes_after) c.args.watch.now c.loop.watch c.args.live.now.node c.loop.live.node
    (λ heard. Serving g.L.EventLog.holds g.L.EventLog.may_leave (g.R.ScriptIn.left c.args.reader.now) (g.R.ScriptIn.left c.loop.reader) (g.W.ReportOut.written c.args.writer.now) (g.W.ReportOut.written c.loop.writer) c.args.kept.now c.loop.kept c.loop.lines c.loop.number c.args.live.now heard c.loop.live)
    c.loop.invariant.live.runs c.loop.invariant.served)

pub returns-in-Err-clause-hidden : goal.returns-in-Err-clause-hidden
returns-in-Err-clause-hidden g c other = (c.in-Err.ensures.hidden other ∙ c.loop.invariant.reads, c.loop.invariant.keeps, c.loop.invariant.writes)

pub returns-in-Err-serve_batch-clause-hidden : goal.returns-in-Err-serve_batch-clause-hidden
returns-in-Err-serve_batch-clause-hidden g c other =
    let quiet = c.in-Err-serve_batch.ensures.hidden other in
    (c.in-Ok-Some.ensures.kept ∙ c.loop.invariant.reads, quiet.0 ∙ c.loop.invariant.keeps, quiet.1 ∙ c.loop.invariant.writes)
