use Rattle.std.proofs.Common.{◌≡◌, [], Some, refl, sym, ◌∙◌, ap, subst}
use Rattle.std.specs.Option.{option_map}
use Rattle.std.specs.BTreeMap as node_map
use Rattle.std.specs.Map.Iter.{deref_pair}
use Rattle.std.proofs.lemmas.Map.Views.{All-turn}
use Rattle.scp_vote.specs.scp_quorum.specs.NodeSet.{node_cmp}
use Rattle.scp_vote.specs.scp_types.specs.declared.ballot.Ballot.{Ballot}
use Rattle.scp_vote.specs.scp_envelope.specs.declared.statement.Pledges.{Pledges}
use Rattle.scp_vote.specs.declared.statements.Entry.{Entry}
use Rattle.scp_ballot_rules.specs.Owed.{Names}
use Rattle.scp_ballot_rules.specs.Told.{ballots_on}
use Rattle.scp_ballot_rules.proofs.Gathering.{Entries, IsGathering, gathering_more}
use Rattle.scp_ballot_rules.proofs.candidates.candidates.Goals as goal

abbrev Named : Pledges → Ballot → Type 0
Named p x = Names p x

pub loop-node-preserved : goal.loop-node-preserved
loop-node-preserved c =
    let b = ballots_on c.args.board.now in
    let item : node_map.get node_cmp c.statements-node-items.result.now c.in-Some.node.now ≡ Some c.in-Some.entry.now =
    All-turn deref_pair (λ e. node_map.get node_cmp c.statements-node-items.result.now e.0 ≡ Some e.1) _ _ _ _ _ _ _ c.into_iter-node-iterator.ensures.into_iter_gives.6 c.into_iter-node-iterator.ensures.into_iter_gives.0 c.loop-node.yielded_by c.in-Some.is c.next.ensures.steps
    in
    let before : Entries → Type 0 = λ rest. IsGathering b Named c.loop-node.list.items rest in
    gathering_more b Named c.loop-node.list.items c.add_named.new.list.items c.in-Some.node.now c.in-Some.entry.now c.in-Some.entry.now.envelope.statement.pledges _
    (sym (c.statements-node-items.ensures.pledges c.in-Some.node.now) ∙ ap (option_map (λ (e : Entry). e.envelope.statement.pledges)) item)
    (rw c.get.ensures at c.in_ok-add_named.ensures.added)
    (subst before c.in-Some.ensures.steps c.loop-node.invariant)

pub returns-clause-all : goal.returns-clause-all
returns-clause-all c x =
    let g : IsGathering (ballots_on c.args.board.now) Named c.loop-node.list.items [] = subst (λ (rest : Entries). IsGathering (ballots_on c.args.board.now) Named c.loop-node.list.items rest) c.in-None.ensures.steps.0 c.loop-node.invariant in
    (λ h. let k = g.sound x h in record { node = k.0; named = k.1; counted = k.2 }, λ h. g.complete h.node x refl h.named h.counted)
