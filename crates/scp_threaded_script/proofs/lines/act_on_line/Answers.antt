use Rattle.scp_threaded_script.proofs.Doing.{done_run, is_done, wait_done}
use Rattle.scp_threaded_script.proofs.lines.act_on_line.Goals as goal

pub returns-in-Open-clause-done : goal.returns-in-Open-clause-done
returns-in-Open-clause-done g c = is_done c.args.command.now _ c.args.nodes.now.items c.open.new.nodes.items c.open.result c.in-Open.is c.open.ensures.done

pub returns-in-Close-clause-done : goal.returns-in-Close-clause-done
returns-in-Close-clause-done g c = is_done c.args.command.now _ c.args.nodes.now.items c.close.new.nodes.items c.close.result c.in-Close.is c.close.ensures.done

pub returns-in-Send-clause-done : goal.returns-in-Send-clause-done
returns-in-Send-clause-done g c = is_done c.args.command.now _ c.args.nodes.now.items c.send.new.nodes.items c.send.result c.in-Send.is c.send.ensures.done

pub returns-in-Wait-clause-runs : goal.returns-in-Wait-clause-runs
returns-in-Wait-clause-runs g c = λ commands done all. done_run commands done c.args.nodes.now.items all

pub returns-in-Wait-clause-done : goal.returns-in-Wait-clause-done
returns-in-Wait-clause-done g c = wait_done c.args.command.now _ _ c.args.nodes.now.items c.in-Wait.is

pub returns-in_default-clause-runs : goal.returns-in_default-clause-runs
returns-in_default-clause-runs g c = c.tell_line.ensures.runs

pub returns-in_default-clause-done : goal.returns-in_default-clause-done
returns-in_default-clause-done g c = c.tell_line.ensures.done

pub returns-in_default-clause-given_up : goal.returns-in_default-clause-given_up
returns-in_default-clause-given_up g c = c.tell_line.ensures.given_up
