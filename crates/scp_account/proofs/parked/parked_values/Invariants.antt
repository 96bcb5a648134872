use Rattle.std.proofs.Common.{◌≡◌, ◌++◌, map, drop}
use Rattle.serde_json.specs.View.{view}
use Rattle.scp_account.specs.Parked.{parked_json}
use Rattle.scp_account.proofs.parked.parked_values.Given as goal

-- with what is left it is all
abbrev pub invariant-loop-held : goal.invariant-loop-held
invariant-loop-held l = map view l.values.items ++ map parked_json (drop l.held-index l.parked) ≡ map parked_json l.parked
