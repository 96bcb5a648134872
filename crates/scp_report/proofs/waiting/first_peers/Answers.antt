use Rattle.std.proofs.Common.{rules, sym, ◌≤◌, length}
use Rattle.std.proofs.lemmas.List.{take_all}
use Rattle.scp_core.specs.scp_types.specs.declared.limits.TheConstants.{LINK_LIMIT}
use Rattle.scp_report.proofs.waiting.first_peers.Goals as goal

pub returns-in-None-clause-first : goal.returns-in-None-clause-first
returns-in-None-clause-first c =
    let few : length c.args.peers.now ≤ LINK_LIMIT = search rules in
    sym (take_all LINK_LIMIT c.args.peers.now few)
