use Rattle.std.proofs.Common.{◌≡◌, ◌↔◌, ◌⊎◌, Contains, slice_get, refl, sym, subst, Some, length, rules}
use Rattle.scp_vote.specs.scp_types.specs.declared.names.NodeId.{NodeId}
use Rattle.scp_driver.specs.Driver.{IsFull}
use Rattle.scp_nominate.specs.Heard.{heard}
use Rattle.scp_nominate.specs.Turns.{Leads, AreInTurn}
use Rattle.scp_vote.specs.scp_quorum.specs.QuorumTree.{QuorumTree}
use Rattle.scp_nominate.proofs.Advancing.{begins_rests, begins_paid}
use Rattle.scp_nominate.proofs.Turning.{first_leads, some_turn}
use Rattle.scp_nominate.proofs.Inserting.{none_ascend}
use Rattle.scp_nominate.proofs.nominator.Nominator.new.Goals as goal

pub add_leader-requires-clause-some : goal.add_leader-requires-clause-some
add_leader-requires-clause-some g c = some_turn c.args.me _ c.in_ok-nodes.nodes.items c.as_slice.result.now c.as_slice.ensures.value c.in_ok-nodes.ensures.nodes

pub returns-clause-sound : goal.returns-clause-sound
returns-clause-sound g c e =
    let begins = c.in_ok-new.ensures.begins in
    let m = c.in_ok-new.field-0 in
    let turns : AreInTurn c.args.me c.args.local.value c.in_ok-nodes.nodes.items = search rules in
    record {
      paid = begins_paid (IsFull (g.D.Driver.says.level c.args.driver) c.args.slot.0) (Leads (g.D.Driver.says.place c.args.driver c.args.slot.0) c.in_ok-nodes.nodes.items 1) c.args.me c.args.local.value m begins;
      rest = begins_rests (IsFull (g.D.Driver.says.level c.args.driver) c.args.slot.0) c.args.me c.args.local.value m begins;
      leaders = first_leads (g.D.Driver.says.place c.args.driver c.args.slot.0) c.in_ok-nodes.nodes.items c.new-leaders.result.items (λ v. Contains c.add_leader.new.leaders.items v) c.new-leaders.ensures.items (subst (λ xs. (v : NodeId) → Contains c.add_leader.new.leaders.items v ↔ (Contains c.new-leaders.result.items v ⊎ (slice_get xs ((g.D.Driver.says.place c.args.driver c.args.slot.0) 1 (length xs)) ≡ Some v))) c.as_slice.ensures.value c.in_ok-add_leader.ensures.added);
      nodes = subst (λ v. AreInTurn v (heard m.board).local c.in_ok-nodes.nodes.items) (sym begins.board.me) (subst (λ (s : QuorumTree). AreInTurn c.args.me s c.in_ok-nodes.nodes.items) (sym begins.board.local) turns);
      rounds = some_turn c.args.me c.args.local.value c.in_ok-nodes.nodes.items c.in_ok-nodes.nodes.items refl turns;
      ascending = c.in_ok-add_leader.ensures.ascending;
    }

pub add_leader-requires-clause-ascending : goal.add_leader-requires-clause-ascending
add_leader-requires-clause-ascending g c = none_ascend c.new-leaders.result.items c.new-leaders.ensures.items
