use Rattle.std.proofs.Common.{◌≡◌, ◌≢◌, ◌<◌, ◌≤◌, ◌↔◌, ℕ, IsTrue, IfSome, Some, None, sym, ◌∙◌, ap, subst}
use Rattle.std.specs.Option.{option_map}
use Rattle.std.specs.BTreeMap as node_map
use Rattle.std.specs.Map.Iter.{deref_pair}
use Rattle.std.proofs.lemmas.Map.Views.{All-turn}
use Rattle.scp_ballot_rules.specs.scp_types.specs.declared.names.NodeId.{NodeId}
use Rattle.scp_ballot_rules.specs.scp_quorum.specs.NodeSet.{node_cmp}
use Rattle.scp_ballot_rules.specs.scp_envelope.specs.declared.statement.Pledges.{Pledges}
use Rattle.scp_ballot_rules.specs.scp_envelope.specs.declared.statement.Envelope.{Envelope}
use Rattle.scp_ballot_rules.specs.scp_vote.specs.declared.statements.Entry.{Entry}
use Rattle.scp_ballot_rules.specs.Owed.{counter_in}
use Rattle.scp_ballot_rules.specs.Told.{ballots_on}
use Rattle.scp_ballot.specs.inside.Ahead.{IsAhead, or_floor}
use Rattle.scp_ballot_rules.proofs.Gathering.{Entries}
use Rattle.scp_ballot.proofs.Aheads.{HoldsVisited, ahead_tested, visited_more, ahead_less, floor_up, floor_rises, for_if, not_over}
use Rattle.scp_ballot_rules.proofs.Stepping.{refuted}
use Rattle.scp_ballot.proofs.raise.highest_above.Goals as goal

pub greater-top-requires-clause-top : goal.greater-top-requires-clause-top
greater-top-requires-clause-top c = c.loop-node.invariant.above

pub loop-node-preserved : goal.loop-node-preserved
loop-node-preserved c =
    let b = ballots_on c.args.board.now in
    let p : Pledges = c.in-Some.entry.now.envelope.statement.pledges in
    let item : node_map.get node_cmp c.statements-node-items.result.now c.in-Some.node.now ≡ Some c.in-Some.entry.now =
    All-turn deref_pair (λ e. node_map.get node_cmp c.statements-node-items.result.now e.0 ≡ Some e.1) _ _ _ _ _ _ _ c.into_iter-node-iterator.ensures.into_iter_gives.6 c.into_iter-node-iterator.ensures.into_iter_gives.0 c.loop-node.yielded_by c.in-Some.is c.next.ensures.steps
    in
    let there : b.statement c.in-Some.node.now ≡ Some p = sym (c.statements-node-items.ensures.pledges c.in-Some.node.now) ∙ ap (option_map (λ (e : Entry). e.envelope.statement.pledges)) item in
    let exact : IsTrue c.is_ahead.result ↔ IsAhead b c.args.n c.in-Some.node.now = ahead_tested b c.args.n c.in-Some.node.now p c.is_ahead.result there (subst (λ (m : NodeId). IsTrue c.is_ahead.result ↔ ((c.in-Some.node.now ≢ m) × (c.args.n < counter_in p))) c.me_of-me.ensures.me c.is_ahead.ensures) in
    let P : NodeId → Type 0 = λ v. c.loop-node.top ≡ None → IsAhead b c.args.n v → ⊥ in
    let Q : NodeId → Type 0 = λ v. IsAhead b (or_floor c.args.n c.loop-node.top) v → ⊥ in
    record {
      above = c.loop-node.invariant.above;
      none = visited_more P P c.in-Some.node.now c.in-Some.entry.now _ (λ w k. k) (λ e. refuted (IsAhead b c.args.n c.in-Some.node.now) c.is_ahead.result exact c.if-is_ahead.false)
          (subst (λ (rest : Entries). HoldsVisited P rest) c.in-Some.ensures.steps c.loop-node.invariant.none);
      seen = visited_more Q Q c.in-Some.node.now c.in-Some.entry.now _ (λ w k. k)
          (λ h. refuted (IsAhead b c.args.n c.in-Some.node.now) c.is_ahead.result exact c.if-is_ahead.false (ahead_less b c.args.n (or_floor c.args.n c.loop-node.top) c.in-Some.node.now (floor_up c.args.n c.loop-node.top c.loop-node.invariant.above) h))
          (subst (λ (rest : Entries). HoldsVisited Q rest) c.in-Some.ensures.steps c.loop-node.invariant.seen);
    }

pub loop-node-preserved-then-is_ahead : goal.loop-node-preserved-then-is_ahead
loop-node-preserved-then-is_ahead c =
    let b = ballots_on c.args.board.now in
    let p : Pledges = c.in-Some.entry.now.envelope.statement.pledges in
    let item : node_map.get node_cmp c.statements-node-items.result.now c.in-Some.node.now ≡ Some c.in-Some.entry.now =
    All-turn deref_pair (λ e. node_map.get node_cmp c.statements-node-items.result.now e.0 ≡ Some e.1) _ _ _ _ _ _ _ c.into_iter-node-iterator.ensures.into_iter_gives.6 c.into_iter-node-iterator.ensures.into_iter_gives.0 c.loop-node.yielded_by c.in-Some.is c.next.ensures.steps
    in
    let there : b.statement c.in-Some.node.now ≡ Some p = sym (c.statements-node-items.ensures.pledges c.in-Some.node.now) ∙ ap (option_map (λ (e : Entry). e.envelope.statement.pledges)) item in
    let P : NodeId → Type 0 = λ v. c.loop-node.top ≡ None → IsAhead b c.args.n v → ⊥ in
    let P2 : NodeId → Type 0 = λ v. c.greater-top.result ≡ None → IsAhead b c.args.n v → ⊥ in
    let Q : NodeId → Type 0 = λ v. IsAhead b (or_floor c.args.n c.loop-node.top) v → ⊥ in
    let Q2 : NodeId → Type 0 = λ v. IsAhead b (or_floor c.args.n c.greater-top.result) v → ⊥ in
    record {
      above = for_if (λ t. c.args.n < t) c.greater-top.result c.greater-top.ensures.above;
      none = visited_more P P2 c.in-Some.node.now c.in-Some.entry.now _ (λ w k e. absurd (c.greater-top.ensures.some e)) (λ e. absurd (c.greater-top.ensures.some e))
          (subst (λ (rest : Entries). HoldsVisited P rest) c.in-Some.ensures.steps c.loop-node.invariant.none);
      seen = visited_more Q Q2 c.in-Some.node.now c.in-Some.entry.now _
          (λ w k h. k (ahead_less b (or_floor c.args.n c.loop-node.top) (or_floor c.args.n c.greater-top.result) w (floor_rises c.args.n (counter_in p) (or_floor c.args.n c.loop-node.top) c.greater-top.result c.greater-top.ensures.some (subst (λ (k : ℕ). IfSome c.greater-top.result (λ t. (k ≤ t) × (or_floor c.args.n c.loop-node.top ≤ t))) (c.counter_of_pledges-counter.ensures ∙ ap (λ (e : Envelope). counter_in e.statement.pledges) c.get.ensures) c.greater-top.ensures.highest)).1 h))
          (not_over b c.in-Some.node.now p (or_floor c.args.n c.greater-top.result) there (floor_rises c.args.n (counter_in p) (or_floor c.args.n c.loop-node.top) c.greater-top.result c.greater-top.ensures.some (subst (λ (k : ℕ). IfSome c.greater-top.result (λ t. (k ≤ t) × (or_floor c.args.n c.loop-node.top ≤ t))) (c.counter_of_pledges-counter.ensures ∙ ap (λ (e : Envelope). counter_in e.statement.pledges) c.get.ensures) c.greater-top.ensures.highest)).0)
          (subst (λ (rest : Entries). HoldsVisited Q rest) c.in-Some.ensures.steps c.loop-node.invariant.seen);
    }
