use Rattle.std.proofs.Common.{List, subst}
use Rattle.std.specs.Prelude.{IfOk}
use Rattle.scp_live.specs.scp_live_config.specs.Names.{Identity}
use Rattle.scp_live_process.specs.Stands.{AreNamesIn}
use Rattle.scp_live_process.proofs.tracing.names_in.Goals as goal

pub returns : goal.returns
returns c = subst (λ (nodes : List Identity). IfOk c.names_of.result (AreNamesIn nodes)) c.as_slice.ensures.value c.names_of.ensures
