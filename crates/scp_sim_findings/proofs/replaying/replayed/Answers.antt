use Rattle.scp_notices.specs.Run.{noticing, nothing_noted}
use Rattle.scp_notices.proofs.Runs.{few_ran}
use Rattle.scp_sim_findings.proofs.replaying.replayed.Goals as goal

pub reports_of-requires-clause-few : goal.reports_of-requires-clause-few
reports_of-requires-clause-few c =
    let ran = c.in-Ok.ran in
    let shows = c.in-Ok.ensures.ran.shows in
    few_ran noticing ran.script.commands.items ran.script.lines.items ran.network nothing_noted shows.noted c.in-Ok.ensures.names shows.run
