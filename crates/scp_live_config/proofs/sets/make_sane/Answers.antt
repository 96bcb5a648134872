use Rattle.std.proofs.Common.{◌≡◌, true, false, rules}
use Rattle.scp_quorum.specs.Sane.{all_nodes}
use Rattle.scp_live_config.specs.inside.Faults.{are_distinct}
use Rattle.scp_live_config.proofs.Distinct.{are_apart, no_apart}
use Rattle.scp_live_config.proofs.sets.make_sane.Goals as goal

pub short_one-requires-clause-apart : goal.short_one-requires-clause-apart
short_one-requires-clause-apart c =
    let yes : are_distinct (all_nodes c.args.set) ≡ true = search rules in
    are_apart (all_nodes c.args.set) yes

pub returns-else-are_apart-clause-wrong : goal.returns-else-are_apart-clause-wrong
returns-else-are_apart-clause-wrong c =
    let no : are_distinct (all_nodes c.args.set) ≡ false = search rules in
    no_apart (all_nodes c.args.set) no
