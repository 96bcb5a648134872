use Rattle.scp_trace_text.proofs.Tracing.{traced_is_what_happened}
use Rattle.scp_trace_text.proofs.laws.what_is_traced_is_what_happened.Goals as goal

pub returns : goal.returns
returns c = traced_is_what_happened c.a_step_is_told_as_it_happened.ensures
