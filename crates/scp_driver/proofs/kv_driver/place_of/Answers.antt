use Rattle.std.proofs.Common.{◌≡◌, ◌+◌, ◌-◌, ◌%◌, rules}
use Rattle.scp_driver.specs.Kv.{leader_place}
use Rattle.scp_driver.proofs.Greatest.{place_is}
use Rattle.scp_driver.proofs.kv_driver.place_of.Goals as goal

pub returns-clause-place : goal.returns-clause-place
returns-clause-place c =
    let same : (c.from.result + c.from-2.result + c.args.n - 2) % c.args.n ≡ leader_place c.args.slot.0 c.args.round c.args.n = search rules in
    place_is c.args.slot.0 c.args.round c.args.n _ c.requires.rounds c.requires.nodes same
