use Rattle.std.proofs.Common.{◌≤◌, arith}
use Rattle.std.proofs.lemmas.Result.{err_from_is_err_and}
use Rattle.scp_threaded_node.specs.scp_types.specs.declared.limits.TheConstants.{NODE_LIMIT}
use Rattle.scp_script.specs.Script.{node_count}
use Rattle.scp_threaded_script.proofs.Ending.{not_started}
use Rattle.scp_threaded_script.proofs.running.run_lines.Goals as goal

pub returns-in_err-made-clause-given_up : goal.returns-in_err-made-clause-given_up
returns-in_err-made-clause-given_up g c =
    let most : node_count c.args.commands.now ≤ NODE_LIMIT = omega (arith, c.count_of_nodes-count.ensures.count, c.count_of_nodes-count.ensures.few) in
    let p = err_from_is_err_and c.from_residual.result c.from_residual.ensures.1 in
    rw (p.1, p.2, c.in_err-made.ensures.only_memory) (not_started c.args.commands.now most)

pub returns-in_err-standing-clause-given_up : goal.returns-in_err-standing-clause-given_up
returns-in_err-standing-clause-given_up g c =
    let most : node_count c.args.commands.now ≤ NODE_LIMIT = omega (arith, c.count_of_nodes-count.ensures.count, c.count_of_nodes-count.ensures.few) in
    let p = err_from_is_err_and c.from_residual-in_err-standing.result c.from_residual-in_err-standing.ensures.1 in
    rw (p.1, p.2, c.in_err-standing.ensures.only_memory) (not_started c.args.commands.now most)
