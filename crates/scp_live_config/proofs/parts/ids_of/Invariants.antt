use Rattle.std.proofs.Common.{◌≡◌, map, take}
use Rattle.scp_live_config.proofs.parts.ids_of.Given as goal

abbrev pub invariant-loop-identity : goal.invariant-loop-identity
invariant-loop-identity l = l.ids.items ≡ map (λ identity. identity.id) (take l.identity-index l.identities)
