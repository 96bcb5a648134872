use Rattle.std.proofs.Common.{◌≡◌, ◌++◌, drop, flat_map, All}
use Rattle.scp_slot.specs.scp_xdr.specs.Kind.{Fits}
use Rattle.scp_slot.specs.scp_quorum.specs.QuorumKind.{set_kind, set_value}
use Rattle.scp_stand_slot.specs.Names.{set_sent}
use Rattle.scp_stand_slot.proofs.names.add_all_sent.Given as goal

-- with what is left it is all
abbrev pub invariant-loop-command : goal.invariant-loop-command
invariant-loop-command l = record {
  sets : l.sets.items ++ flat_map set_sent (drop l.command-index l.commands) ≡ l.initial.sets.items ++ flat_map set_sent l.commands;
  fits : All (λ set. Fits set_kind (set_value set)) l.initial.sets.items → All (λ set. Fits set_kind (set_value set)) l.sets.items;
}
