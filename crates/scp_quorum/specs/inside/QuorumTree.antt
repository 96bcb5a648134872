-- What a quorum set is, apart from memory: a tree of thresholds and validators.
-- No public clause reaches this: nothing here need be believed.
use Rattle.std.specs.Prelude.{ℕ, List, refl}
use Rattle.std.specs.Coded.{Coded, coded_ℕ, coded_list, code_by, coded×}
use Rattle.scp_xdr.specs.scp_types.specs.declared.names.NodeId.{NodeId}
use Rattle.scp_quorum.specs.QuorumTree.{Level}

-- the code by which proofs tell levels apart
abbrev pub coded_node : Coded NodeId
coded_node = code_by (List ℕ) (coded_list coded_ℕ) (λ n. n.0) (λ bytes. record { 0 = bytes }) (λ _. refl)

abbrev pub coded_level : Coded Level
coded_level =
    code_by (ℕ × List NodeId) (coded× coded_ℕ (coded_list coded_node)) (λ l. (l.threshold, l.validators)) (λ p. record { threshold = p.0; validators = p.1 }) (λ _. refl)
