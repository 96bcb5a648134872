use Rattle.std.proofs.Common.{◌≡◌, Some, sym, ◌∙◌, ap, subst}
use Rattle.std.specs.Option.{option_map}
use Rattle.std.specs.BTreeMap as node_map
use Rattle.std.specs.Map.Iter.{deref_pair}
use Rattle.std.proofs.lemmas.Map.Views.{All-turn}
use Rattle.scp_ballot_rules.specs.scp_quorum.specs.NodeSet.{node_cmp}
use Rattle.scp_ballot_rules.specs.scp_vote.specs.declared.statements.Entry.{Entry}
use Rattle.scp_ballot_rules.specs.scp_vote.specs.declared.claim.StatementKind.TheVariants.{Nomination}
use Rattle.scp_ballot_rules.specs.scp_vote.specs.Seen.{seen}
use Rattle.scp_stand_needs.proofs.Visiting.{Entries}
use Rattle.scp_stand_needs.proofs.Naming.{IsNaming, naming_more, naming_end}
use Rattle.scp_stand_needs.proofs.nominated.nominated.Goals as goal

pub loop-node-preserved : goal.loop-node-preserved
loop-node-preserved c =
    let b = seen Nomination c.args.board.now in
    let item : node_map.get node_cmp c.statements-node-items.result.now c.in-Some.node.now ≡ Some c.in-Some.entry.now =
    All-turn deref_pair (λ e. node_map.get node_cmp c.statements-node-items.result.now e.0 ≡ Some e.1) _ _ _ _ _ _ _ c.into_iter-node-iterator.ensures.into_iter_gives.6 c.into_iter-node-iterator.ensures.into_iter_gives.0 c.loop-node.yielded_by c.in-Some.is c.next.ensures.steps
    in
    let before : Entries → Type 0 = λ rest. IsNaming b c.loop-node.values rest in
    naming_more b c.loop-node.values c.add_named.new.values c.in-Some.node.now c.in-Some.entry.now c.in-Some.entry.now.envelope.statement.pledges _
    (sym (c.statements-node-items.ensures.pledges c.in-Some.node.now) ∙ ap (option_map (λ (e : Entry). e.envelope.statement.pledges)) item)
    (rw c.get.ensures at c.in_ok-add_named.ensures.added)
    (subst before c.in-Some.ensures.steps c.loop-node.invariant)

pub returns-clause-named : goal.returns-clause-named
returns-clause-named c =
    let b = seen Nomination c.args.board.now in
    naming_end b c.loop-node.values (subst (λ (rest : Entries). IsNaming b c.loop-node.values rest) c.in-None.ensures.steps.0 c.loop-node.invariant)
