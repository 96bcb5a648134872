use Rattle.std.proofs.Common.{ℕ, List, [], IsTrue, sym, subst}
use Rattle.std.specs.BTreeSet.{contains}
use Rattle.std.specs.Map.Iter.{deref}
use Rattle.std.proofs.lemmas.Map.Views.{All-turn}
use Rattle.scp_ballot_rules.specs.scp_envelope.specs.Ballots.{value_cmp}
use Rattle.scp_ballot_rules.specs.scp_vote.specs.declared.claim.StatementKind.TheVariants.{Nomination}
use Rattle.scp_ballot_rules.specs.scp_vote.specs.Seen.{seen}
use Rattle.scp_stand_needs.specs.declared.steps.Need.{Need}
use Rattle.scp_stand_needs.specs.Needs.{IsNominationDue}
use Rattle.scp_stand_needs.proofs.Due.{due_listed}
use Rattle.scp_stand_needs.proofs.Listing.{AreSoFar, so_far_start, so_far_more}
use Rattle.scp_stand_needs.proofs.nominated.needs_of_nomination.Goals as goal

pub loop-value-init : goal.loop-value-init
loop-value-init c =
    let board = c.args.board.now in
    let due = IsNominationDue (seen Nomination board) in
    let empty : AreSoFar board c.args.members.now due c.into_iter-value-iterator.result [] = subst (λ (rest : List (List ℕ)). AreSoFar board c.args.members.now due rest []) (sym c.into_iter-value-iterator.ensures.into_iter_gives.0)
    (so_far_start board c.args.members.now due c.in_ok-values.values.keys c.into_iter-value-iterator.ensures.into_iter_gives.4 (λ step claim h. due_listed (seen Nomination board) c.in_ok-values.values c.in_ok-values.ensures.named step claim h)) in
    subst (λ (ns : List Need). AreSoFar board c.args.members.now due c.into_iter-value-iterator.result ns) (sym c.new-needs.ensures.items) empty

pub of_value-requires : goal.of_value-requires
of_value-requires c = record {
  named = (c.in_ok-values.ensures.named c.in-Some.value.now).0
      (All-turn deref (λ k. IsTrue (contains value_cmp c.in_ok-values.values k)) _ _ _ _ _ _ _ c.into_iter-value-iterator.ensures.into_iter_gives.5 c.into_iter-value-iterator.ensures.into_iter_gives.0 c.loop-value.yielded_by c.in-Some.is c.next.ensures.steps);
}

pub loop-value-preserved : goal.loop-value-preserved
loop-value-preserved c =
    let board = c.args.board.now in
    let due = IsNominationDue (seen Nomination board) in
    so_far_more board c.args.members.now due c.in-Some.value.now _ c.loop-value.needs.items c.add.new.needs.items c.in_ok-need.need c.in_ok-need.ensures.next c.in_ok-add.ensures
    (subst (λ (rest : List (List ℕ)). AreSoFar board c.args.members.now due rest c.loop-value.needs.items) c.in-Some.ensures.steps c.loop-value.invariant)
