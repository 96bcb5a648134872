-- A node that plays a script runs, and so does its ledger.
use Rattle.std.proofs.Common.{◌≡◌, refl, ◌+◌, ◌-◌, ◌<◌, ℕ, List, Some, sym, subst, get_or, length, arith}
use Rattle.std.specs.Prelude.{Result, Ok, Err, OnOk, slice_get}
use Rattle.std.proofs.lemmas.Option.{slice_get_within, slice_get_read, get_or_from_slice_get}
use Rattle.scp_line.specs.scp_types.specs.declared.fault.Fault.{Fault}
use Rattle.scp_line.specs.scp_core.specs.Kv.{TheoremGivesLedger, NodeView, LedgerTheorem}
use Rattle.scp_line.specs.scp_driver.specs.Kv.{kv_says}
use Rattle.scp_line.specs.scp_ledger.specs.By.{RunsBy}
use Rattle.scp_line.specs.scp_turn.specs.Heard.{Nodes, past_at}
use Rattle.scp_line.specs.scp_turn.specs.Network.{NetworkView}
use Rattle.scp_line.specs.scp_script.specs.declared.command.Command.{Command}
use Rattle.scp_line.specs.Nodes.{HasPlayed}
use Rattle.scp_stand_node.specs.scp_stand_slot.specs.declared.names.Names.{Names}
use Rattle.scp_stand_node.specs.scp_stand_slot.specs.Adding.{Adds}
use Rattle.scp_stand_node.specs.Stand.{IsSeen}
use Rattle.scp_trace.specs.Playing.{IsPlaying, moment_at}
use Rattle.scp_trace.specs.Standing.{HavePlayed, IsStandIn, TellsNode}

pub seen_at : (count : ℕ) (commands played : List Command) (network : NetworkView) (i : ℕ) (v : NodeView) → IsPlaying count commands played network → slice_get network.nodes i ≡ Some v → IsSeen v
seen_at count commands played network i v playing at =
    let far = playing.so_far in
    let runs = far.played.run i v at in
    let theorem = subst (λ (u : NodeView). LedgerTheorem (past_at (i + 1) far.heard) u) (get_or_from_slice_get network.nodes i v v at) (far.played.have i v (slice_get_within network.nodes i v at)) in
    record {
      runs = runs;
      ledger = subst (λ (u : NodeView). RunsBy kv_says u.ledger) (sym (theorem.now runs)) theorem.flows.journal.running;
    }

pub have_played : TheoremGivesLedger → (commands played : List Command) (network : NetworkView) (far : HasPlayed commands played network) → HavePlayed commands played (moment_at far.heard network)
have_played law commands played network far = record {
  played = far.played;
  ledgers = λ i d here. law (past_at (i + 1) far.heard) (get_or network.nodes i d) (far.played.have i d here);
}

-- a node that is read at its place
pub read_at : (nodes : Nodes) (k number : ℕ) (v : NodeView) → number ≡ k + 1 → k < length nodes → v ≡ get_or nodes k v → slice_get nodes (number - 1) ≡ Some v
read_at nodes k number v is within e =
    let place : k ≡ number - 1 = omega (arith, is) in
    subst (λ (i : ℕ). slice_get nodes i ≡ Some v) place (slice_get_read nodes (length nodes) k v refl within e)

pub node_told : (names : Names) (commands played : List Command) (network : NetworkView) (number : ℕ) (v : NodeView) (old new : List ℕ) (r : Result (Unit {0}) Fault) → slice_get network.nodes (number - 1) ≡ Some v → OnOk r (Adds old new (IsStandIn names commands played v)) → OnOk r (Adds old new (TellsNode names commands played network.nodes number))
node_told names commands played network number v old new (Ok done) at a = (a.0, a.1, (v, at, a.2))
node_told names commands played network number v old new (Err fault) at a = tt
