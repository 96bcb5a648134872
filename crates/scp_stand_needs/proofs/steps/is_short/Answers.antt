use Rattle.std.proofs.Common.{◌≡◌, ◌∙◌, Some, sym, ap}
use Rattle.std.specs.Option.{option_map}
use Rattle.std.specs.BTreeMap as node_map
use Rattle.scp_ballot_rules.specs.scp_quorum.specs.NodeSet.{node_cmp, is_in}
use Rattle.scp_ballot_rules.specs.scp_vote.specs.declared.statements.Entry.{Entry}
use Rattle.scp_ballot_rules.specs.scp_vote.specs.Seen.{seen}
use Rattle.scp_stand_needs.proofs.Members.{short_told}
use Rattle.scp_stand_needs.proofs.steps.is_short.Goals as goal

pub returns-in-Some : goal.returns-in-Some
returns-in-Some c =
    let item : node_map.get node_cmp c.statements.result.now c.args.node.now ≡ Some c.in-Some.entry.now = sym c.in-Some.ensures.value in
    short_told (seen c.args.kind c.args.board.now) c.args.counted.now c.args.node.now (is_in c.args.all.now) c.in-Some.entry.now.counted.value c.satisfied.result c.requires.all
    (sym (c.statements.ensures.counted c.args.node.now) ∙ ap (option_map (λ (e : Entry). e.counted.value)) item)
    (rw c.deref.ensures at (rw c.set.ensures.value at c.satisfied.ensures))
