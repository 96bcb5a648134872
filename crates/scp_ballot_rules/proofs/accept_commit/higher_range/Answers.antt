use Rattle.std.proofs.Common.{◌≡◌, ◌<◌, ℕ, List, Contains, IfNone, IfSome, subst}
use Rattle.scp_ballot_rules.specs.declared.finding.Bound.TheVariants.{Of}
use Rattle.scp_ballot_rules.specs.declared.told.Stage.TheVariants.{Acceptance}
use Rattle.scp_ballot_rules.specs.inside.Finding.{IsExactRange}
use Rattle.scp_vote.specs.scp_types.specs.declared.ballot.Ballot.{Ballot}
use Rattle.scp_vote.specs.declared.claim.Claim.TheVariants.{Committed}
use Rattle.scp_vote.specs.Board.{Accepted}
use Rattle.scp_ballot_rules.specs.Told.{ballots_on}
use Rattle.scp_ballot_rules.specs.Own.{counter_of}
use Rattle.scp_ballot_rules.proofs.accept_commit.higher_range.Goals as goal

pub returns-clause-none : goal.returns-clause-none
returns-clause-none c =
    let Free : ℕ → List ℕ → Type 0 = λ n v. (x : Ballot) → Contains c.args.boundaries.now x → n < x.counter → x.value ≡ v → Accepted (ballots_on c.args.board.now) (Committed x.counter x.counter x.value) → ⊥ in
    subst (λ (v : List ℕ). IfNone c.in_ok-found.found (Free (counter_of c.args.state.now.high) v)) c.in_ok-share.ensures.same (subst (λ (n : ℕ). IfNone c.in_ok-found.found (Free n c.in_ok-share.field-0)) c.counter-floor.ensures c.in_ok-found.ensures.none)

pub returns-clause-exact : goal.returns-clause-exact
returns-clause-exact c =
    let b = ballots_on c.args.board.now in
    subst (λ (v : List ℕ). IfSome c.in_ok-found.found (λ range. IsExactRange Acceptance b (Of v) (counter_of c.args.state.now.high) c.args.boundaries.now range)) c.in_ok-share.ensures.same
    (subst (λ (n : ℕ). IfSome c.in_ok-found.found (λ range. IsExactRange Acceptance b (Of c.in_ok-share.field-0) n c.args.boundaries.now range)) c.counter-floor.ensures c.in_ok-found.ensures.exact)
