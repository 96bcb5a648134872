use Rattle.std.proofs.Common.{List, ℕ, subst}
use Rattle.std.specs.Prelude.{OnOk}
use Rattle.scp_script.specs.declared.command.Command.TheVariants as script
use Rattle.scp_threaded_node.specs.declared.acting.Act.TheVariants as act
use Rattle.scp_threaded_script.specs.inside.Played.{ActsOn}
use Rattle.scp_threaded_script.proofs.Acting.{sends_line}
use Rattle.scp_threaded_script.proofs.Doing.{acts_all_run, acts_all_done}
use Rattle.scp_threaded_script.proofs.Giving.{acts_all_given}
use Rattle.scp_threaded_script.proofs.lines.send.Goals as goal

pub returns-clause-runs : goal.returns-clause-runs
returns-clause-runs g c = acts_all_run c.args.nodes.now.items c.act_on_link.new.nodes.items c.args.from c.args.to (act.Send c.in_ok-bytes.bytes) c.act_on_link.result c.act_on_link.ensures.acts c.act_on_link.ensures.same

pub returns-clause-done : goal.returns-clause-done
returns-clause-done g c =
    let acts = subst (λ (bytes : List ℕ). OnOk c.act_on_link.result (ActsOn c.args.nodes.now.items c.args.from c.args.to (act.Send bytes) c.act_on_link.new.nodes.items)) c.in_ok-bytes.ensures.same c.act_on_link.ensures.acts in
    acts_all_done c.args.nodes.now.items c.act_on_link.new.nodes.items (script.Send c.args.from c.args.to c.args.bytes.now) c.args.from c.args.to (act.Send c.args.bytes.now) c.act_on_link.result c.requires.link (sends_line c.args.from c.args.to c.args.bytes.now) acts

pub returns-clause-given : goal.returns-clause-given
returns-clause-given g c = acts_all_given c.args.nodes.now.items c.act_on_link.new.nodes.items c.args.from c.args.to (act.Send c.in_ok-bytes.bytes) c.act_on_link.result c.act_on_link.ensures.acts c.act_on_link.ensures.same
