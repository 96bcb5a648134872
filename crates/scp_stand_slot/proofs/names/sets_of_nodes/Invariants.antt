use Rattle.std.proofs.Common.{◌≡◌, map, All}
use Rattle.scp_slot.specs.scp_xdr.specs.Kind.{Fits}
use Rattle.scp_slot.specs.scp_quorum.specs.QuorumKind.{set_kind, set_value}
use Rattle.scp_script.specs.Nodes.{numbers, set_at}
use Rattle.scp_stand_slot.proofs.names.sets_of_nodes.Given as goal

abbrev pub invariant-loop-index : goal.invariant-loop-index
invariant-loop-index l = record {
  sets : l.sets.items ≡ map (λ number. set_at number l.commands) (numbers l.index);
  fits : All (λ set. Fits set_kind (set_value set)) l.sets.items;
}
