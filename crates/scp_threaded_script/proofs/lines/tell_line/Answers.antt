use Rattle.std.proofs.Common.{length, None, Some}
use Rattle.scp_threaded_node.specs.scp_wire.specs.declared.link.Inbound.TheVariants as inbound
use Rattle.scp_threaded_script.proofs.Doing.{done_run, found_is, tells_all_run, tells_all_done}
use Rattle.scp_threaded_script.proofs.Telling.{silent_done}
use Rattle.scp_threaded_script.proofs.Giving.{tells_all_given}
use Rattle.scp_threaded_script.proofs.lines.tell_line.Goals as goal

pub tell_node-requires-clause-number : goal.tell_node-requires-clause-number
tell_node-requires-clause-number g c = (found_is c.args.command.now _ (Some (c.in-Some.number, c.in-Some.local)) c.in_ok-number.ensures.exact c.in-Some.is).0 (length c.args.nodes.now.items) c.requires.there

pub returns-in_err-number-clause-runs : goal.returns-in_err-number-clause-runs
returns-in_err-number-clause-runs g c = λ commands done all. done_run commands done c.args.nodes.now.items all

pub returns-in-None-clause-runs : goal.returns-in-None-clause-runs
returns-in-None-clause-runs g c = λ commands done all. done_run commands done c.args.nodes.now.items all

pub returns-in-None-clause-done : goal.returns-in-None-clause-done
returns-in-None-clause-done g c = λ commands done all. silent_done commands done c.args.command.now c.args.nodes.now.items c.requires.other (found_is c.args.command.now _ None c.in_ok-number.ensures.exact c.in-None.is) all

pub returns-in-Some-clause-runs : goal.returns-in-Some-clause-runs
returns-in-Some-clause-runs g c = tells_all_run c.args.nodes.now.items c.tell_node.new.nodes.items c.in-Some.number (inbound.Local c.in-Some.local) c.tell_node.result c.tell_node.ensures.told c.tell_node.ensures.same

pub returns-in-Some-clause-done : goal.returns-in-Some-clause-done
returns-in-Some-clause-done g c =
    let is = found_is c.args.command.now _ (Some (c.in-Some.number, c.in-Some.local)) c.in_ok-number.ensures.exact c.in-Some.is in
    tells_all_done c.args.nodes.now.items c.tell_node.new.nodes.items c.args.command.now (c.in-Some.number, c.in-Some.local) c.tell_node.result (is.0 (length c.args.nodes.now.items) c.requires.there).0 c.requires.other is c.tell_node.ensures.told

pub returns-in-Some-clause-given : goal.returns-in-Some-clause-given
returns-in-Some-clause-given g c = tells_all_given c.args.nodes.now.items c.tell_node.new.nodes.items c.in-Some.number (inbound.Local c.in-Some.local) c.tell_node.result c.tell_node.ensures.told c.tell_node.ensures.same
