use Rattle.std.proofs.Common.{◌≡◌, ◌++◌, drop, map}
use Rattle.serde_json.specs.View.{view}
use Rattle.scp_history_json.specs.Json.{side_json}
use Rattle.scp_history_json.proofs.pieces.sides_value.Given as goal

-- with what is left it is all
abbrev pub invariant-loop-side : goal.invariant-loop-side
invariant-loop-side l = map view l.values.items ++ map (side_json l.by_number) (drop l.side-index l.sides) ≡ map (side_json l.by_number) l.sides
