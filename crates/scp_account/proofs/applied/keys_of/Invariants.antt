use Rattle.std.proofs.Common.{◌≡◌, ◌++◌, map}
use Rattle.serde_json.specs.View.{view}
use Rattle.scp_account.specs.Node.{key_json}
use Rattle.scp_account.proofs.applied.keys_of.Given as goal

-- with what is left it is all
abbrev pub invariant-loop-key : goal.invariant-loop-key
invariant-loop-key l = map view l.values.items ++ map key_json l.key-iterator ≡ map key_json l.initial.key-iterator
