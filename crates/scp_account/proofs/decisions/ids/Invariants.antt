use Rattle.std.proofs.Common.{◌≡◌, ◌++◌, map, drop}
use Rattle.serde_json.specs.View.{view}
use Rattle.scp_account.specs.Pieces.{id_json}
use Rattle.scp_account.proofs.decisions.ids.Given as goal

-- with what is left it is all
abbrev pub invariant-loop-node : goal.invariant-loop-node
invariant-loop-node l = map view l.values.items ++ map id_json (drop l.node-index l.nodes) ≡ map id_json l.nodes
