use Rattle.scp_script.specs.declared.command.Command.TheVariants as script
use Rattle.scp_threaded_node.specs.declared.acting.Act.TheVariants as act
use Rattle.scp_threaded_script.proofs.Acting.{opens_line}
use Rattle.scp_threaded_script.proofs.Doing.{acts_all_run, acts_all_done}
use Rattle.scp_threaded_script.proofs.Giving.{acts_all_given}
use Rattle.scp_threaded_script.proofs.lines.open.Goals as goal

pub returns-clause-runs : goal.returns-clause-runs
returns-clause-runs g c = acts_all_run c.args.nodes.now.items c.drive.new.nodes.items c.args.from c.args.to act.Open c.drive.result c.drive.ensures.acts c.drive.ensures.same

pub returns-clause-done : goal.returns-clause-done
returns-clause-done g c = acts_all_done c.args.nodes.now.items c.drive.new.nodes.items (script.Open c.args.from c.args.to) c.args.from c.args.to act.Open c.drive.result c.requires.link (opens_line c.args.from c.args.to) c.drive.ensures.acts

pub returns-clause-given : goal.returns-clause-given
returns-clause-given g c = acts_all_given c.args.nodes.now.items c.drive.new.nodes.items c.args.from c.args.to act.Open c.drive.result c.drive.ensures.acts c.drive.ensures.same
