use Rattle.std.proofs.Common.{◌∙◌, ap, string_bytes}
use Rattle.scp_trace.specs.declared.tracing.TraceWatch.{TraceWatch}
use Rattle.scp_trace.proofs.Watching.{both_written, same_both}
use Rattle.scp_trace.proofs.tracing.TraceWatch.write_behind.Goals as goal

pub returns-clause-added : goal.returns-clause-added
returns-clause-added c =
    both_written c.args.self.now c.write_told.new.self c.args.line c.args.command.now c.args.nodes.now (string_bytes c.write_reported.new.self.text) c.write_reported.result c.write_told.ensures.same c.in_ok-write_told.ensures.added c.write_reported.ensures.added

pub returns-clause-fresh : goal.returns-clause-fresh
returns-clause-fresh c = ap (λ (w : TraceWatch). w.facts) c.write_reported.ensures.same ∙ c.write_told.ensures.fresh

pub returns-clause-same : goal.returns-clause-same
returns-clause-same c = same_both c.args.self.now c.write_told.new.self c.write_reported.new.self c.write_told.ensures.same c.write_reported.ensures.same
