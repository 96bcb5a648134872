use Rattle.std.proofs.Common.{sym, ◌∙◌}
use Rattle.scp_trace_text.proofs.Writing.{wrote_step, raised_some}
use Rattle.scp_trace_text.proofs.watch.TracingWatch.write.Goals as goal

pub returns-clause-wrote : goal.returns-clause-wrote
returns-clause-wrote g c =
    wrote_step c.write_text.result c.args.self.now _ c.args.node.now c.replace-told.result c.replace-told.new.dest _ _ c.as_str.result.now c.as_slice.result.now c.self.view_is c.replace-told.ensures.value (sym c.lacks_memory.ensures ∙ c.if-lacks_memory.false)
    (c.as_slice.ensures.value ∙ c.into_tellings-tellings.ensures) (c.as_str.ensures.value ∙ c.in-Ok.ensures.lines) (c.replace-told.ensures.after ∙ c.new.ensures) c.write_text.ensures.whole c.write_text.ensures.kept

pub returns-clause-failed : goal.returns-clause-failed
returns-clause-failed g c = raised_some c.write_text.result _ _ c.write_text.ensures.raised
