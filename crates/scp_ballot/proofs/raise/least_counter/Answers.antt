use Rattle.std.proofs.Common.{◌≡◌, ◌<◌, ℕ, [], Some, None, refl, sym, ◌∙◌, ap, subst}
use Rattle.std.specs.Option.{option_map}
use Rattle.std.specs.BTreeMap as node_map
use Rattle.std.specs.Map.Iter.{deref_pair}
use Rattle.std.proofs.lemmas.Map.Views.{All-turn}
use Rattle.scp_ballot_rules.specs.scp_types.specs.declared.names.NodeId.{NodeId}
use Rattle.scp_ballot_rules.specs.scp_quorum.specs.NodeSet.{node_cmp}
use Rattle.scp_ballot_rules.specs.scp_envelope.specs.declared.statement.Pledges.{Pledges}
use Rattle.scp_ballot_rules.specs.scp_envelope.specs.declared.statement.Envelope.{Envelope}
use Rattle.scp_ballot_rules.specs.scp_vote.specs.declared.statements.Entry.{Entry}
use Rattle.scp_ballot_rules.specs.Owed.{counter_in}
use Rattle.scp_ballot_rules.specs.Told.{ballots_on}
use Rattle.scp_ballot.specs.inside.Ahead.{Lessens, IsLeastOfStatement}
use Rattle.scp_ballot_rules.proofs.Gathering.{Entries}
use Rattle.scp_ballot.proofs.Aheads.{HoldsVisited, visited_more, lessens_free, lessens_down, least_of_more, least_of_here}
use Rattle.scp_ballot.proofs.raise.least_counter.Goals as goal

pub loop-node-preserved : goal.loop-node-preserved
loop-node-preserved c =
    let b = ballots_on c.args.board.now in
    let p : Pledges = c.in-Some.entry.now.envelope.statement.pledges in
    let item : node_map.get node_cmp c.statements-node-items.result.now c.in-Some.node.now ≡ Some c.in-Some.entry.now =
    All-turn deref_pair (λ e. node_map.get node_cmp c.statements-node-items.result.now e.0 ≡ Some e.1) _ _ _ _ _ _ _ c.into_iter-node-iterator.ensures.into_iter_gives.6 c.into_iter-node-iterator.ensures.into_iter_gives.0 c.loop-node.yielded_by c.in-Some.is c.next.ensures.steps
    in
    let there : b.statement c.in-Some.node.now ≡ Some p = sym (c.statements-node-items.ensures.pledges c.in-Some.node.now) ∙ ap (option_map (λ (e : Entry). e.envelope.statement.pledges)) item in
    let less : Lessens b c.args.n (counter_in p) c.loop-node.least c.in_ok-least.least = subst (λ (k : ℕ). Lessens b c.args.n k c.loop-node.least c.in_ok-least.least) (c.counter_of_pledges-counter.ensures ∙ ap (λ (e : Envelope). counter_in e.statement.pledges) c.get.ensures) c.in_ok-least.ensures.lessens in
    let P : NodeId → Type 0 = λ v. IsLeastOfStatement b c.args.n c.loop-node.least v in
    let Q : NodeId → Type 0 = λ v. IsLeastOfStatement b c.args.n c.in_ok-least.least v in
    record {
      above = c.in_ok-least.ensures.above;
      free = lessens_free b c.args.n (counter_in p) c.loop-node.least c.in_ok-least.least c.loop-node.invariant.free less;
      least = visited_more P Q c.in-Some.node.now c.in-Some.entry.now _
          (λ w k. least_of_more b c.args.n c.loop-node.least c.in_ok-least.least w (lessens_down b c.args.n (counter_in p) c.loop-node.least c.in_ok-least.least less) k)
          (least_of_here b c.args.n c.loop-node.least c.in_ok-least.least c.in-Some.node.now p there less)
          (subst (λ (rest : Entries). HoldsVisited P rest) c.in-Some.ensures.steps c.loop-node.invariant.least);
    }

pub returns-clause-least : goal.returns-clause-least
returns-clause-least c v =
    let P : NodeId → Type 0 = λ v. IsLeastOfStatement (ballots_on c.args.board.now) c.args.n c.loop-node.least v in
    let visited : HoldsVisited P [] = subst (λ (rest : Entries). HoldsVisited P rest) c.in-None.ensures.steps.0 c.loop-node.invariant.least in
    visited v refl
