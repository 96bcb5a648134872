use Rattle.std.proofs.Common.{◌≡◌, map, take, string_bytes}
use Rattle.scp_live_config.proofs.parts.names_of.Given as goal

abbrev pub invariant-loop-identity : goal.invariant-loop-identity
invariant-loop-identity l = map string_bytes l.names.items ≡ map (λ identity. identity.name) (take l.identity-index l.identities)
