use Rattle.std.proofs.Common.{◌∙◌, ap}
use Rattle.scp_notices.specs.scp_line.specs.declared.playing.PlayFault.{PlayFault}
use Rattle.scp_notices.specs.scp_report.specs.Node.{reports_of}
use Rattle.scp_command.proofs.Accounting.{nodes_untold}
use Rattle.scp_command.proofs.runs.account_of.Goals as goal

pub returns-in-Err-clause-cause : goal.returns-in-Err-clause-cause
returns-in-Err-clause-cause c = nodes_untold (reports_of c.args.nodes.now) c.from.result c.of_play.result c.of_play.ensures.stop c.of_play.ensures.memory (λ fits. ap (λ (f : PlayFault). f.fault) c.from.ensures ∙ c.in-Err.ensures.only_memory fits)
