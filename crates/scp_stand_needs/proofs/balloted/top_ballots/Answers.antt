use Rattle.std.proofs.Common.{◌↔◌, ℕ, List, Contains, sym, subst}
use Rattle.std.proofs.lemmas.Result.{IfOk-weaker}
use Rattle.std.specs.BTreeMap as tree
use Rattle.scp_kv.specs.scp_types.specs.declared.ballot.Ballot.{Ballot}
use Rattle.scp_ballot_rules.specs.scp_envelope.specs.Ballots.{value_cmp}
use Rattle.scp_ballot_rules.specs.Greatest.{ballot_at}
use Rattle.scp_ballot_rules.specs.Owed.{IsCandidate}
use Rattle.scp_ballot_rules.specs.scp_vote.specs.declared.claim.StatementKind.TheVariants.{Balloting}
use Rattle.scp_ballot_rules.specs.scp_vote.specs.Seen.{seen}
use Rattle.scp_stand_needs.specs.inside.Found.{IsGreatest}
use Rattle.scp_stand_needs.proofs.Counters.{Counters, greatest_as}
use Rattle.scp_stand_needs.proofs.balloted.top_ballots.Goals as goal

pub returns-clause-greatest : goal.returns-clause-greatest
returns-clause-greatest c =
    let b = seen Balloting c.args.board.now in
    let list = c.as_slice.result.now in
    let all : (x : Ballot) → Contains list x ↔ IsCandidate b x = subst (λ (xs : List Ballot). (x : Ballot) → Contains xs x ↔ IsCandidate b x) (sym c.as_slice.ensures.value) c.in_ok-list.ensures.all in
    IfOk-weaker c.greatest.result
    (λ (counters : Counters). (v : List ℕ) → IsGreatest (λ n. Contains list (ballot_at n v)) (tree.get value_cmp counters v))
    (λ (counters : Counters). (v : List ℕ) → IsGreatest (λ n. IsCandidate b (ballot_at n v)) (tree.get value_cmp counters v))
    (λ counters h v. greatest_as (λ n. Contains list (ballot_at n v)) (λ n. IsCandidate b (ballot_at n v)) (tree.get value_cmp counters v) (λ n. all (ballot_at n v)) (h v))
    c.greatest.ensures.greatest
