use Rattle.std.proofs.Common.{◌∙◌, ap, string_bytes}
use Rattle.scp_trace_text.specs.scp_facts.specs.Watching.{WatchView}
use Rattle.scp_trace.proofs.Watching.{facts_written, facts_left}
use Rattle.scp_trace.proofs.tracing.TraceWatch.write_told.Goals as goal

pub returns-in-Stands-clause-added : goal.returns-in-Stands-clause-added
returns-in-Stands-clause-added c =
    let old = c.args.self.now in
    facts_left old.depth old.names.now c.args.line c.args.nodes.now old.facts.tellings (string_bytes old.text) c.in-Stands.is

pub returns-clause-added : goal.returns-clause-added
returns-clause-added c =
    let old = c.args.self.now in
    facts_written old.depth old.names.now c.args.line c.args.nodes.now old.facts.tellings c.as_slice.result.now (string_bytes old.text) (string_bytes c.write_facts.new.out) c.write_facts.result c.in-Whole.is
    (c.as_slice.ensures.value ∙ c.into_tellings-tellings.ensures ∙ ap (λ (f : WatchView). f.tellings) c.replace-facts.ensures.value) c.write_facts.ensures.added
