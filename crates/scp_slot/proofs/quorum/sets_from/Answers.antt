use Rattle.std.proofs.Common.{◌≡◌, ◌≤◌, Some, [], refl, sym, ◌∙◌, ap, subst}
use Rattle.std.specs.Option.{option_map}
use Rattle.std.specs.BTreeMap as node_map
use Rattle.std.specs.BTreeMap.{is_at}
use Rattle.std.specs.Map.Iter.{deref_pair}
use Rattle.std.proofs.lemmas.Map.Views.{All-turn}
use Rattle.scp_nominate.specs.scp_types.specs.declared.names.NodeId.{NodeId}
use Rattle.scp_nominate.specs.scp_quorum.specs.NodeSet.{node_cmp}
use Rattle.scp_nominate.specs.scp_quorum.specs.Quorum.{set_of}
use Rattle.scp_nominate.specs.scp_envelope.specs.declared.statement.Pledges.{Pledges}
use Rattle.scp_nominate.specs.scp_vote.specs.declared.statements.Entry.{Entry}
use Rattle.scp_ballot.specs.scp_ballot_rules.specs.Owed.{counter_in}
use Rattle.scp_ballot.specs.scp_ballot_rules.specs.Told.{ballots_on}
use Rattle.scp_ballot.specs.scp_ballot_rules.proofs.Gathering.{Entries}
use Rattle.scp_ballot.specs.scp_ballot_rules.proofs.Stepping.{refuted}
use Rattle.scp_slot.specs.inside.Sets.{counted_from}
use Rattle.scp_slot.proofs.Sets.{IsPuttingSets, passes_by, puts_set, putting_end, set_at, no_set_at, below, set_after}
use Rattle.scp_slot.proofs.quorum.sets_from.Goals as goal

pub loop-node-preserved : goal.loop-node-preserved
loop-node-preserved c =
    let b = ballots_on c.args.board.now in
    let v = c.in-Some.node.now in
    let p : Pledges = c.in-Some.entry.now.envelope.statement.pledges in
    let item : node_map.get node_cmp c.statements-node-items.result.now v ≡ Some c.in-Some.entry.now =
    All-turn deref_pair (λ e. node_map.get node_cmp c.statements-node-items.result.now e.0 ≡ Some e.1) _ _ _ _ _ _ _ c.into_iter-node-iterator.ensures.into_iter_gives.6 c.into_iter-node-iterator.ensures.into_iter_gives.0 c.loop-node.yielded_by c.in-Some.is c.next.ensures.steps
    in
    let there : b.statement v ≡ Some p = sym (c.statements-node-items.ensures.pledges v) ∙ ap (option_map (λ (e : Entry). e.envelope.statement.pledges)) item in
    let before : Entries → Type 0 = λ rest. IsPuttingSets b c.args.counter (set_of c.loop-node.sets) rest in
    let inv = subst before c.in-Some.ensures.steps c.loop-node.invariant in
    let lt = below c.args.counter (counter_in p) (refuted (c.args.counter ≤ counter_in p) c.has_come.result c.has_come.ensures c.if-has_come.false) in
    passes_by b c.args.counter v c.in-Some.entry.now _ (set_of c.loop-node.sets) (no_set_at c.args.counter (b.statement v) p (b.counted v) there lt) inv

pub loop-node-preserved-in_ok-insert : goal.loop-node-preserved-in_ok-insert
loop-node-preserved-in_ok-insert c =
    let b = ballots_on c.args.board.now in
    let v = c.in-Some.node.now in
    let p : Pledges = c.in-Some.entry.now.envelope.statement.pledges in
    let item : node_map.get node_cmp c.statements-node-items.result.now v ≡ Some c.in-Some.entry.now =
    All-turn deref_pair (λ e. node_map.get node_cmp c.statements-node-items.result.now e.0 ≡ Some e.1) _ _ _ _ _ _ _ c.into_iter-node-iterator.ensures.into_iter_gives.6 c.into_iter-node-iterator.ensures.into_iter_gives.0 c.loop-node.yielded_by c.in-Some.is c.next.ensures.steps
    in
    let there : b.statement v ≡ Some p = sym (c.statements-node-items.ensures.pledges v) ∙ ap (option_map (λ (e : Entry). e.envelope.statement.pledges)) item in
    let before : Entries → Type 0 = λ rest. IsPuttingSets b c.args.counter (set_of c.loop-node.sets) rest in
    let inv = subst before c.in-Some.ensures.steps c.loop-node.invariant in
    let counted : b.counted v ≡ Some c.in-Some.entry.now.counted.value = sym (c.statements-node-items.ensures.counted v) ∙ ap (option_map (λ (e : Entry). e.counted.value)) item in
    let le = c.has_come.ensures.0 c.if-has_come.true in
    let here : counted_from b c.args.counter v ≡ Some c.in-Some.entry.now.counted.value = set_at c.args.counter (b.statement v) p (b.counted v) there le ∙ counted in
    puts_set b c.args.counter v c.in-Some.entry.now _ (set_of c.loop-node.sets) (set_of c.insert.new.self) c.in-Some.entry.now.counted.value here
    (λ w. set_after (λ shared. shared.value) (is_at (node_cmp v) w) c.in_ok-set.set c.in-Some.entry.now.counted.value (node_map.get node_cmp c.loop-node.sets w) (node_map.get node_cmp c.insert.new.self w) c.in_ok-set.ensures (c.in_ok-insert.ensures.updates.0 w)) inv

pub loop-node-preserved-in_ok-insert-2 : goal.loop-node-preserved-in_ok-insert-2
loop-node-preserved-in_ok-insert-2 c =
    let b = ballots_on c.args.board.now in
    let v = c.in-Some.node.now in
    let p : Pledges = c.in-Some.entry.now.envelope.statement.pledges in
    let item : node_map.get node_cmp c.statements-node-items.result.now v ≡ Some c.in-Some.entry.now =
    All-turn deref_pair (λ e. node_map.get node_cmp c.statements-node-items.result.now e.0 ≡ Some e.1) _ _ _ _ _ _ _ c.into_iter-node-iterator.ensures.into_iter_gives.6 c.into_iter-node-iterator.ensures.into_iter_gives.0 c.loop-node.yielded_by c.in-Some.is c.next.ensures.steps
    in
    let there : b.statement v ≡ Some p = sym (c.statements-node-items.ensures.pledges v) ∙ ap (option_map (λ (e : Entry). e.envelope.statement.pledges)) item in
    let before : Entries → Type 0 = λ rest. IsPuttingSets b c.args.counter (set_of c.loop-node.sets) rest in
    let inv = subst before c.in-Some.ensures.steps c.loop-node.invariant in
    let counted : b.counted v ≡ Some c.in-Some.entry.now.counted.value = sym (c.statements-node-items.ensures.counted v) ∙ ap (option_map (λ (e : Entry). e.counted.value)) item in
    let le = c.has_come.ensures.0 c.if-has_come.true in
    let here : counted_from b c.args.counter v ≡ Some c.in-Some.entry.now.counted.value = set_at c.args.counter (b.statement v) p (b.counted v) there le ∙ counted in
    puts_set b c.args.counter v c.in-Some.entry.now _ (set_of c.loop-node.sets) (set_of c.insert.new.self) c.in-Some.entry.now.counted.value here
    (λ w. set_after (λ shared. shared.value) (is_at (node_cmp v) w) c.in_ok-set.set c.in-Some.entry.now.counted.value (node_map.get node_cmp c.loop-node.sets w) (node_map.get node_cmp c.insert.new.self w) c.in_ok-set.ensures (c.in_ok-insert.ensures.updates.0 w)) inv

pub returns : goal.returns
returns c =
    let b = ballots_on c.args.board.now in
    let done : Entries → Type 0 = λ rest. IsPuttingSets b c.args.counter (set_of c.loop-node.sets) rest in
    putting_end b c.args.counter (set_of c.loop-node.sets) (subst done c.in-None.ensures.steps.0 c.loop-node.invariant)
