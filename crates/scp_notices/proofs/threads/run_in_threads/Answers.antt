use Rattle.std.proofs.Common.{[]}
use Rattle.std.specs.Prelude.{All}
use Rattle.scp_line.specs.scp_script.specs.Nodes.{NamesNodes}
use Rattle.scp_line.specs.scp_script.specs.Script.{AreAdmitted}
use Rattle.scp_script_check.specs.declared.reading.Script.{Script}
use Rattle.scp_notices.proofs.Fitting.{lines_fit}
use Rattle.scp_notices.proofs.Naming.{threads_keep}
use Rattle.scp_notices.proofs.Stops.{threads_told}
use Rattle.scp_notices.proofs.threads.run_in_threads.Goals as goal

pub played-requires-clause-count : goal.played-requires-clause-count
played-requires-clause-count g c = λ lives outlive. lines_fit c.args.text.now c.in-Ok.script.commands.items c.in-Ok.script.lines.items c.in-Ok.ensures.said

pub returns-clause-cause : goal.returns-clause-cause
returns-clause-cause g c = threads_told c.args.text.now c.in-Ok.script.commands.items c.in-Ok.script.lines.items c.played.result c.in-Ok.ensures.said c.played.ensures.ended

pub returns-clause-names : goal.returns-clause-names
returns-clause-names g c = threads_keep (λ (s : Script). All NamesNodes s.commands.items) c.in-Ok.script c.played.result c.played.ensures.same c.in-Ok.ensures.nodes

pub returns-clause-admitted : goal.returns-clause-admitted
returns-clause-admitted g c = threads_keep (λ (s : Script). AreAdmitted [] s.commands.items) c.in-Ok.script c.played.result c.played.ensures.same c.in-Ok.ensures.admitted
