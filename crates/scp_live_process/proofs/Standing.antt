-- Where a node stands, with the names of its configuration.
use Rattle.std.proofs.Common.{◌≡◌, ℕ, List, None, subst}
use Rattle.std.specs.Prelude.{Result, Ok, Err, OnOk}
use Rattle.scp_stand_node.specs.scp_types.specs.declared.fault.Fault.{Fault}
use Rattle.scp_stand_node.specs.scp_core.specs.Kv.{NodeView}
use Rattle.scp_live.specs.Live.{LiveView}
use Rattle.scp_stand_node.specs.scp_stand_slot.specs.declared.names.Names.{Names}
use Rattle.scp_stand_node.specs.Stand.{IsStand}
use Rattle.scp_live_process.specs.Stands.{AreNamesIn, TellsStand}
use Rattle.scp_live_process.specs.inside.Texts.{AddsText}

pub stand_named : (r : Result (Unit {0}) Fault) (v : LiveView) (names : Names) (n : NodeView) (old new : List ℕ) → n ≡ v.node → AreNamesIn v.nodes names → OnOk r (AddsText old new (IsStand names None n)) → OnOk r (AddsText old new (TellsStand v))
stand_named (Ok tt) v names n old new at named a = (a.0, a.1, record { names = names; named = named; is = subst (λ (m : NodeView). IsStand names None m a.0) at a.2 })
stand_named (Err f) v names n old new at named a = tt
