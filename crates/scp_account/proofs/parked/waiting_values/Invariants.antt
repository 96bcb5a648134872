use Rattle.std.proofs.Common.{◌≡◌, ◌++◌, map, drop}
use Rattle.serde_json.specs.View.{view}
use Rattle.scp_account.specs.Parked.{waiting_json}
use Rattle.scp_account.proofs.parked.waiting_values.Given as goal

-- with what is left it is all
abbrev pub invariant-loop-carried : goal.invariant-loop-carried
invariant-loop-carried l = map view l.values.items ++ map waiting_json (drop l.carried-index l.messages) ≡ map waiting_json l.messages
