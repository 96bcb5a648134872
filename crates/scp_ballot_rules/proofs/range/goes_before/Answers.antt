use Rattle.std.proofs.Common.{rules, ◌≡◌}
use Rattle.scp_ballot_rules.proofs.Firsts.{same_value}
use Rattle.scp_ballot_rules.proofs.range.goes_before.Goals as goal

pub returns-in-Some : goal.returns-in-Some
returns-in-Some c =
    let same : c.args.boundary.now.value ≡ c.in-Some.best.value = search rules in
    same_value c.args.boundary.now c.in-Some.best c.args.best.now same c.in-Some.is
