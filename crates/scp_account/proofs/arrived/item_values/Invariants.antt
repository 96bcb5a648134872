use Rattle.std.proofs.Common.{◌≡◌, ◌++◌, map, drop}
use Rattle.serde_json.specs.View.{view}
use Rattle.scp_account.specs.Arrived.{item_json}
use Rattle.scp_account.proofs.arrived.item_values.Given as goal

-- with what is left it is all
abbrev pub invariant-loop-item : goal.invariant-loop-item
invariant-loop-item l = map view l.values.items ++ map item_json (drop l.item-index l.items) ≡ map item_json l.items
