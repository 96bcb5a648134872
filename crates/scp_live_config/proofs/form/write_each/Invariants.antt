use Rattle.std.proofs.Common.{◌≡◌, ◌++◌, drop, flat_map}
use Rattle.scp_live_config.specs.Form.{identity_form}
use Rattle.scp_live_config.proofs.form.write_each.Given as goal

-- with what is left it is all
abbrev pub invariant-loop-identity : goal.invariant-loop-identity
invariant-loop-identity l = l.out.items ++ flat_map identity_form (drop l.identity-index l.identities) ≡ l.fn.out.items ++ flat_map identity_form l.identities
