use Rattle.std.proofs.Common.{◌≡◌, ℕ, List, [], Some, sym, subst}
use Rattle.std.specs.BTreeMap as tree
use Rattle.std.specs.Map.{keys_of}
use Rattle.std.specs.Map.Iter.{deref_pair}
use Rattle.std.proofs.lemmas.Map.Views.{All-turn}
use Rattle.scp_ballot_rules.specs.scp_envelope.specs.Ballots.{value_cmp}
use Rattle.scp_ballot_rules.specs.scp_vote.specs.declared.claim.StatementKind.TheVariants.{Balloting}
use Rattle.scp_ballot_rules.specs.scp_vote.specs.Seen.{seen}
use Rattle.scp_stand_needs.specs.declared.steps.Need.{Need}
use Rattle.scp_stand_needs.specs.Needs.{IsBallotDue}
use Rattle.scp_stand_needs.proofs.Counters.{top_ballot}
use Rattle.scp_stand_needs.proofs.DueBallots.{due_listed}
use Rattle.scp_stand_needs.proofs.Listing.{AreSoFar, so_far_start, so_far_more}
use Rattle.scp_stand_needs.proofs.balloted.preparing.Goals as goal

pub loop-value-init : goal.loop-value-init
loop-value-init c =
    let board = c.args.board.now in
    let due = IsBallotDue (seen Balloting board) in
    let empty : AreSoFar board c.args.members.now due (keys_of c.into_iter-value-iterator.result) [] = subst (λ (rest : List (List ℕ × ℕ)). AreSoFar board c.args.members.now due (keys_of rest) []) (sym c.into_iter-value-iterator.ensures.into_iter_gives.0)
    (so_far_start board c.args.members.now due (tree.keys c.in_ok-counters.counters) c.into_iter-value-iterator.ensures.into_iter_gives.5 (λ step claim h. due_listed (seen Balloting board) c.in_ok-counters.counters c.in_ok-counters.ensures.greatest c.requires.preparing step claim h)) in
    subst (λ (ns : List Need). AreSoFar board c.args.members.now due (keys_of c.into_iter-value-iterator.result) ns) (sym c.new-needs.ensures.items) empty

pub of_value-requires-clause-top : goal.of_value-requires-clause-top
of_value-requires-clause-top c =
    let item : tree.get value_cmp c.in_ok-counters.counters c.in-Some.value.now ≡ Some c.in-Some.counter.now =
    All-turn deref_pair (λ e. tree.get value_cmp c.in_ok-counters.counters e.0 ≡ Some e.1) _ _ _ _ _ _ _ c.into_iter-value-iterator.ensures.into_iter_gives.6 c.into_iter-value-iterator.ensures.into_iter_gives.0 c.loop-value.yielded_by c.in-Some.is c.next.ensures.steps
    in
    top_ballot (seen Balloting c.args.board.now) c.in-Some.counter.now c.in-Some.value.now (tree.get value_cmp c.in_ok-counters.counters c.in-Some.value.now) item (c.in_ok-counters.ensures.greatest c.in-Some.value.now)

pub loop-value-preserved : goal.loop-value-preserved
loop-value-preserved c =
    let board = c.args.board.now in
    let due = IsBallotDue (seen Balloting board) in
    so_far_more board c.args.members.now due c.in-Some.value.now _ c.loop-value.needs.items c.add.new.needs.items c.in_ok-need.need c.in_ok-need.ensures.next c.in_ok-add.ensures
    (subst (λ (rest : List (List ℕ × ℕ)). AreSoFar board c.args.members.now due (keys_of rest) c.loop-value.needs.items) c.in-Some.ensures.steps c.loop-value.invariant)
