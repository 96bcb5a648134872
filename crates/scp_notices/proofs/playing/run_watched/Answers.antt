use Rattle.std.proofs.Common.{[], List, subst, sym}
use Rattle.std.specs.Prelude.{All}
use Rattle.scp_line.specs.scp_script.specs.declared.command.Command.{Command}
use Rattle.scp_line.specs.scp_script.specs.Nodes.{NamesNodes}
use Rattle.scp_line.specs.scp_script.specs.Script.{AreAdmitted}
use Rattle.scp_line.specs.Nodes.{HaveRoom}
use Rattle.scp_script_check.specs.declared.reading.Script.{Script}
use Rattle.scp_notices.proofs.Fitting.{lines_fit}
use Rattle.scp_line.specs.Headlines.{AreNodesHeadlined}
use Rattle.scp_line.specs.Player.{lining}
use Rattle.scp_notices.specs.declared.playing.Ran.{Ran}
use Rattle.scp_notices.proofs.Naming.{run_keeps, run_holds}
use Rattle.scp_notices.proofs.Runs.{watched_so}
use Rattle.scp_notices.proofs.Stops.{run_told}
use Rattle.scp_notices.proofs.playing.run_watched.Goals as goal

pub played-requires-clause-count : goal.played-requires-clause-count
played-requires-clause-count g c = lines_fit c.args.text.now c.in-Ok.script.commands.items c.in-Ok.script.lines.items c.in-Ok.ensures.said

pub returns-clause-cause : goal.returns-clause-cause
returns-clause-cause g c = run_told c.args.text.now c.in-Ok.script.commands.items c.in-Ok.script.lines.items c.played.result c.in-Ok.ensures.said c.played.ensures.stopped

pub returns-clause-names : goal.returns-clause-names
returns-clause-names g c = run_keeps (λ (s : Script). All NamesNodes s.commands.items) c.in-Ok.script c.played.result c.played.ensures.same c.in-Ok.ensures.nodes

pub returns-clause-admitted : goal.returns-clause-admitted
returns-clause-admitted g c = run_keeps (λ (s : Script). AreAdmitted [] s.commands.items) c.in-Ok.script c.played.result c.played.ensures.same c.in-Ok.ensures.admitted

pub returns-clause-room : goal.returns-clause-room
returns-clause-room g c = run_keeps (λ (s : Script). HaveRoom s.commands.items) c.in-Ok.script c.played.result c.played.ensures.same (subst (λ (cs : List Command). HaveRoom cs) (sym c.in-Ok.ensures.said.commands_are) (c.a_script_has_room.ensures.room c.in-Ok.ensures.said.digits))

pub returns-clause-ran : goal.returns-clause-ran
returns-clause-ran g c =
    let L = lining g.W.LineWatch.notes_begin g.W.LineWatch.notes_end g.W.Watch.notes_before g.W.Watch.notes_after in
    watched_so L c.args.text.now c.in-Ok.script c.args.watch c.played.result c.in-Ok.ensures.said c.played.ensures.same c.played.ensures.ran

pub returns-clause-headline : goal.returns-clause-headline
returns-clause-headline g c = run_holds (λ (s : Script) (ran : Ran). AreNodesHeadlined s.commands.items ran.network.nodes) c.in-Ok.script c.played.result c.played.ensures.same c.played.ensures.headline
