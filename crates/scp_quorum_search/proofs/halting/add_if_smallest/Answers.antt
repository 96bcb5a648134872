use Rattle.std.proofs.Common.{List, sym, subst}
use Rattle.std.specs.BTreeSet.{BTreeSet}
use Rattle.std.proofs.lemmas.Bool.{iff_false}
use Rattle.std.proofs.lemmas.List.Elements.{All-push}
use Rattle.scp_quorum.specs.scp_types.specs.declared.names.NodeId.{NodeId}
use Rattle.scp_quorum.specs.NodeSet.{is_in}
use Rattle.scp_quorum_search.specs.Quorums.{IsListed}
use Rattle.scp_quorum_search.specs.inside.Losses.{IsHaltingIn, IsSmallestIn, AreSmallest}
use Rattle.scp_quorum_search.proofs.Losing.{listed_more, listed_last}
use Rattle.scp_quorum_search.proofs.halting.add_if_smallest.Goals as goal

pub returns-then-not-branch-clause-added : goal.returns-then-not-branch-clause-added
returns-then-not-branch-clause-added c smallest = absurd (iff_false c.in_ok-is_smallest.ensures c.if-not-branch.true smallest)

pub returns-clause-each : goal.returns-clause-each
returns-clause-each c all =
    let quest = c.args.quest.now in
    let at = c.args.at.now in
    let P : BTreeSet NodeId → Type 0 = λ s. IsHaltingIn quest at (is_in s) × IsSmallestIn quest at (is_in s) in
    let Q : List (BTreeSet NodeId) → Type 0 = λ sets. AreSmallest quest at sets in
    let here : P c.in_ok-copied.copied = subst P (sym c.in_ok-copied.ensures) (c.requires, c.in_ok-is_smallest.ensures.0 c.if-not-branch.false) in
    subst Q (sym c.in_ok-push.ensures.items) (All-push P c.args.found.now.items c.in_ok-copied.copied all here)

pub returns-clause-kept : goal.returns-clause-kept
returns-clause-kept c us listed =
    let Q : List (BTreeSet NodeId) → Type 0 = λ sets. IsListed sets us in
    subst Q (sym c.in_ok-push.ensures.items) (listed_more c.args.found.now.items c.in_ok-copied.copied us listed)

pub returns-clause-added : goal.returns-clause-added
returns-clause-added c smallest =
    let Q : List (BTreeSet NodeId) → Type 0 = λ sets. IsListed sets (is_in c.args.lost.now) in
    subst Q (sym c.in_ok-push.ensures.items) (listed_last c.args.found.now.items c.in_ok-copied.copied c.args.lost.now c.in_ok-copied.ensures)
