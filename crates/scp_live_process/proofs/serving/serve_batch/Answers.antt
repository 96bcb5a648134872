use Rattle.std.proofs.Common.{◌∙◌, Err, string_bytes, refl, ap, inl, inr}
use Rattle.scp_stand_node.specs.scp_types.specs.declared.fault.Fault.{Fault}
use Rattle.scp_stand_node.specs.scp_turn.specs.Watch.{notes}
use Rattle.scp_stand_node.specs.scp_device.specs.Device.{GainsPart}
use Rattle.scp_live_process.proofs.Going.{seen_as}
use Rattle.scp_live_process.proofs.Acts.{unfilled, unfilled_yet}
use Rattle.scp_live_process.proofs.Served.{stays_by, batch_is}
use Rattle.scp_live_process.proofs.serving.serve_batch.Goals as goal

pub returns-in-Err-keep-clause-served : goal.returns-in-Err-keep-clause-served
returns-in-Err-keep-clause-served g c =
    seen_as (notes g.V.Watch.notes_before g.V.Watch.notes_after) c.args.watch.now c.answer_all.new.watch c.args.live.now.node c.answer_all.new.live.node _ _
    (λ heard p. (
      tt,
      unfilled_yet c.in-Err-keep.fault heard c.in-Err-keep.ensures.only (unfilled c.in-Ok.next heard p.1),
      inl (refl, stays_by g.L.EventLog.holds g.L.EventLog.may_leave g.L.EventLog.moment g.L.EventLog.left_since c.args.kept.now c.keep.new.self g.met.L.EventLog.counts_now c.keep.ensures.any_moment),
    ))
    c.in-Ok.ensures.answered

pub returns-clause-served : goal.returns-clause-served
returns-clause-served g c =
    seen_as (notes g.V.Watch.notes_before g.V.Watch.notes_after) c.args.watch.now c.answer_all.new.watch c.args.live.now.node c.answer_all.new.live.node _ _
    (λ heard p. (
      tt,
      unfilled_yet c.in-Err-write.fault heard (inl c.in-Err-write.ensures.cause) (unfilled c.in-Ok.next heard p.1),
      inr (
        ap (λ (f : Fault). Err f) c.in-Err-write.ensures.cause,
        batch_is g.L.EventLog.holds g.L.EventLog.may_leave (λ text. GainsPart (g.W.ReportOut.written c.args.writer.now) text (g.W.ReportOut.written c.write.new.writer)) c.args.number c.args.lines.items c.args.kept.now c.keep.new.self c.args.live.now c.answer_all.new.live heard
            c.new-batch.result c.answer_all.new.batch c.as_slice.result.now (string_bytes c.in-Ok-keep.durable.text) c.new-batch.ensures p.0 (c.as_slice.ensures.value ∙ c.into_parts-text.ensures.entries) (c.in-Ok-keep.ensures.text ∙ c.into_parts-text.ensures.text) c.in-Err-write.ensures.part c.in-Ok-keep.ensures.kept,
      ),
    ))
    c.in-Ok.ensures.answered
