use Rattle.std.proofs.Common.{◌≡◌, ◌≢◌, ◌<◌, ◌↔◌, IsTrue, Some, sym, ◌∙◌, ap, subst}
use Rattle.std.specs.Option.{option_map}
use Rattle.std.specs.BTreeMap as node_map
use Rattle.std.specs.Map.Iter.{deref_pair}
use Rattle.std.proofs.lemmas.Map.Views.{All-turn}
use Rattle.scp_ballot_rules.specs.scp_types.specs.declared.names.NodeId.{NodeId}
use Rattle.scp_ballot_rules.specs.scp_quorum.specs.NodeSet.{node_cmp, is_in}
use Rattle.scp_ballot_rules.specs.scp_envelope.specs.declared.statement.Pledges.{Pledges}
use Rattle.scp_ballot_rules.specs.scp_vote.specs.declared.statements.Entry.{Entry}
use Rattle.scp_ballot_rules.specs.Owed.{counter_in}
use Rattle.scp_ballot_rules.specs.Told.{ballots_on}
use Rattle.scp_ballot.specs.inside.Ahead.{IsAhead}
use Rattle.scp_ballot_rules.proofs.Gathering.{Entries}
use Rattle.scp_ballot.proofs.Aheads.{IsPickingAhead, ahead_tested, picking_by, picking_takes}
use Rattle.scp_ballot_rules.proofs.Stepping.{refuted}
use Rattle.scp_ballot.proofs.raise.nodes_ahead.Goals as goal

pub loop-node-preserved-in_ok-insert : goal.loop-node-preserved-in_ok-insert
loop-node-preserved-in_ok-insert c =
    let b = ballots_on c.args.board.now in
    let p : Pledges = c.in-Some.entry.now.envelope.statement.pledges in
    let item : node_map.get node_cmp c.statements-node-items.result.now c.in-Some.node.now ≡ Some c.in-Some.entry.now =
    All-turn deref_pair (λ e. node_map.get node_cmp c.statements-node-items.result.now e.0 ≡ Some e.1) _ _ _ _ _ _ _ c.into_iter-node-iterator.ensures.into_iter_gives.6 c.into_iter-node-iterator.ensures.into_iter_gives.0 c.loop-node.yielded_by c.in-Some.is c.next.ensures.steps
    in
    let there : b.statement c.in-Some.node.now ≡ Some p = sym (c.statements-node-items.ensures.pledges c.in-Some.node.now) ∙ ap (option_map (λ (e : Entry). e.envelope.statement.pledges)) item in
    let exact : IsTrue c.is_ahead.result ↔ IsAhead b c.args.n c.in-Some.node.now = ahead_tested b c.args.n c.in-Some.node.now p c.is_ahead.result there (subst (λ (m : NodeId). IsTrue c.is_ahead.result ↔ ((c.in-Some.node.now ≢ m) × (c.args.n < counter_in p))) c.me_of-me.ensures.me c.is_ahead.ensures) in
    let before : Entries → Type 0 = λ rest. IsPickingAhead b c.args.n (is_in c.loop-node.nodes) rest in
    picking_takes b c.args.n c.in-Some.node.now c.in-Some.entry.now _ (is_in c.loop-node.nodes) (is_in c.insert.new.self) (exact.0 c.if-is_ahead.true) c.in_ok-insert.ensures.updates.0
    (subst before c.in-Some.ensures.steps c.loop-node.invariant)

pub loop-node-preserved : goal.loop-node-preserved
loop-node-preserved c =
    let b = ballots_on c.args.board.now in
    let p : Pledges = c.in-Some.entry.now.envelope.statement.pledges in
    let item : node_map.get node_cmp c.statements-node-items.result.now c.in-Some.node.now ≡ Some c.in-Some.entry.now =
    All-turn deref_pair (λ e. node_map.get node_cmp c.statements-node-items.result.now e.0 ≡ Some e.1) _ _ _ _ _ _ _ c.into_iter-node-iterator.ensures.into_iter_gives.6 c.into_iter-node-iterator.ensures.into_iter_gives.0 c.loop-node.yielded_by c.in-Some.is c.next.ensures.steps
    in
    let there : b.statement c.in-Some.node.now ≡ Some p = sym (c.statements-node-items.ensures.pledges c.in-Some.node.now) ∙ ap (option_map (λ (e : Entry). e.envelope.statement.pledges)) item in
    let exact : IsTrue c.is_ahead.result ↔ IsAhead b c.args.n c.in-Some.node.now = ahead_tested b c.args.n c.in-Some.node.now p c.is_ahead.result there (subst (λ (m : NodeId). IsTrue c.is_ahead.result ↔ ((c.in-Some.node.now ≢ m) × (c.args.n < counter_in p))) c.me_of-me.ensures.me c.is_ahead.ensures) in
    let before : Entries → Type 0 = λ rest. IsPickingAhead b c.args.n (is_in c.loop-node.nodes) rest in
    picking_by b c.args.n c.in-Some.node.now c.in-Some.entry.now _ (is_in c.loop-node.nodes) (refuted (IsAhead b c.args.n c.in-Some.node.now) c.is_ahead.result exact c.if-is_ahead.false)
    (subst before c.in-Some.ensures.steps c.loop-node.invariant)
